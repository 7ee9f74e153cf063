-- A walk over fields, one field on.
use Rattle.std.proofs.Common.{◌≡◌, ℕ, ◌+◌, ◌≤◌, List, [], ◌∷◌, length, drop, Some, ap, sym, eqb, ◌∙◌, arith}
use Rattle.std.proofs.lemmas.Bool.{cond_both}
use Rattle.std.proofs.lemmas.List.{drop-drop}
use Rattle.std.proofs.lemmas.Option.{slice_get_within}
use Rattle.std.specs.List.{slice_get}
use Rattle.lines.proofs.Walking.{nth_left}
use Rattle.lines.specs.Fields.{in_front, fields}

-- the next field is the one at the index
pub next_nth : (fs left : List (List ℕ)) (i : ℕ) → left ≡ drop i fs → slice_get left 0 ≡ slice_get fs i
next_nth fs left i e = ap (λ (xs : List (List ℕ)). slice_get xs 0) e ∙ nth_left fs i

-- the fields after it are to come
pub next_left : (fs left rest : List (List ℕ)) (i : ℕ) → left ≡ drop i fs → rest ≡ drop 1 left → rest ≡ drop (i + 1) fs
next_left fs left rest i e h = h ∙ ap (λ (xs : List (List ℕ)). drop 1 xs) e ∙ drop-drop 1 i fs

-- an octet in front makes one field more at most
one_more : (b : ℕ) (fs : List (List ℕ)) → length (in_front b fs) ≤ length fs + 1
one_more b [] = omega arith
one_more b (f ∷ fs) = omega arith

-- a line has one field more than octets at most
few_fields : (p : ℕ) (bs : List ℕ) → length (fields p bs) ≤ length bs + 1
few_fields p [] = omega arith
few_fields p (b ∷ bs) =
    cond_both (eqb b p) ([] ∷ fields p bs) (in_front b (fields p bs)) (λ fs. length fs ≤ length (b ∷ bs) + 1)
    (λ _. omega (arith, few_fields p bs))
    (λ _. omega (arith, few_fields p bs, one_more b (fields p bs)))

-- a field stands at an index that is no more than the line's length
pub index_within : (line : List ℕ) (left : List (List ℕ)) (i : ℕ) (f : List ℕ) → left ≡ drop i (fields 32 line) → Some f ≡ slice_get left 0
    → i ≤ length line
index_within line left i f e h =
    omega (arith, few_fields 32 line, slice_get_within (fields 32 line) i f (sym (h ∙ next_nth (fields 32 line) left i e)))
