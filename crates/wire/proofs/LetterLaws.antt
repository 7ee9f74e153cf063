-- Letters and their octets.
use Rattle.std.proofs.Common.{◌≡◌, ℕ, true, eqb, Some, None, Option, sym, refl, ap, ◌∙◌, ⊎_elim}
use Rattle.std.proofs.lemmas.Bool.{eqb-true}
use Rattle.wire.specs.declared.message.CellLetter.TheVariants.{Poll, Echo}
use Rattle.wire.specs.declared.message.BitLetter.TheVariants.{Bits, Final}
use Rattle.wire.specs.declared.message.Letter.{Letter}
use Rattle.wire.specs.declared.message.Letter.TheVariants.{OfCells, OfBits}
use Rattle.wire.specs.Letters.{letter_of, letter_octet}
use Rattle.wire.proofs.CheckLaws.{none_some, cond_ways}

-- a letter's octet is that letter
pub letter_back : (l : Letter) → letter_of (letter_octet l) ≡ Some l
letter_back (OfCells Poll) = refl
letter_back (OfCells Echo) = refl
letter_back (OfBits Bits) = refl
letter_back (OfBits Final) = refl

-- an octet that is a letter is that letter's
pub letter_octet_of : (x : ℕ) (l : Letter) → letter_of x ≡ Some l → letter_octet l ≡ x
letter_octet_of x l e =
    ⊎_elim (λ a. at (OfCells Poll) 80 refl a)
    (λ a. ⊎_elim (λ b. at (OfCells Echo) 69 refl b)
    (λ b. ⊎_elim (λ c. at (OfBits Bits) 66 refl c)
    (λ c. ⊎_elim (λ d. at (OfBits Final) 70 refl d) (λ d. none_some l (sym d.1))
    (cond_ways (eqb x 70) (Some (OfBits Final)) None (Some l) c.1))
    (cond_ways (eqb x 66) (Some (OfBits Bits)) _ (Some l) b.1))
    (cond_ways (eqb x 69) (Some (OfCells Echo)) _ (Some l) a.1))
    (cond_ways (eqb x 80) (Some (OfCells Poll)) _ (Some l) e)
  where
    at : (k : Letter) (n : ℕ) → letter_octet k ≡ n → (eqb x n ≡ true) × (◌≡◌ {A = Option Letter} (Some k) (Some l)) → letter_octet l ≡ x
    at k n p a =
        let s : k ≡ l = cc a.1 in
        ap letter_octet (sym s) ∙ p ∙ sym (eqb-true x n a.0)
