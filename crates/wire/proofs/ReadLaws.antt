-- Octets that pass the reader's checks.
use Rattle.std.proofs.Common.{◌≡◌, ℕ, ◌+◌, ◌<◌, ◌≤◌, true, false, not, ◌||◌, eqb, ltb, leb, List, length, get_or, drop, Some, None, Ok, Err, Option, Result, refl}
use Rattle.std.proofs.lemmas.Bool.{eq-eqb, eqb-true, le-ltb, ltb-false, lt-leb, leb-false, or_parts, not-false}
use Rattle.refusal.specs.declared.Refusal.TheVariants.{BadSize, NoNode, Torn, OutOfTurn}
use Rattle.refusal.specs.declared.Fault.{Fault}
use Rattle.refusal.specs.declared.Layer.{Layer}
use Rattle.reading.specs.Octets.{pair_at}
use Rattle.wire.specs.declared.message.Letter.{Letter}
use Rattle.wire.specs.Letters.{letter_of, letter_octet, takes_step}
use Rattle.wire.specs.Faults.{bad_size}
use Rattle.wire.specs.Items.{or_later}
use Rattle.wire.specs.Messages.{Parts, body_length}
use Rattle.wire.specs.Reads.{body_fault, parts_in, unless_fault, read_answer}
use Rattle.wire.proofs.CheckLaws.{none_some, check_ok, with_letter_ok, unless_ok}
use Rattle.wire.proofs.LetterLaws.{letter_octet_of}

-- what is left of the checks is that of the body
pub passed : {X : Type 0} (w : ℕ) (reads : List ℕ → Option X) (n m : ℕ) (o : List ℕ) (l : Letter)
    → bad_size n ≡ false → bad_size m ≡ false → 5 ≤ length o → letter_of (get_or o 0 0) ≡ Some l → get_or o 4 0 ≡ m
    → length o ≡ 5 + body_length w l m → get_or o 3 0 < n → takes_step l (pair_at o 1) ≡ true
    → read_answer w reads n m o ≡ unless_fault (body_fault w reads l m (drop 5 o)) (parts_in l o)
passed w reads n m o l a b long k count fits node t =
    let e₂ = le-ltb (length o) 5 long in
    let e₃ = eq-eqb (get_or o 4 0) m count in
    let e₄ = eq-eqb (length o) (5 + body_length w l m) fits in
    let e₅ = lt-leb n (get_or o 3 0) node in
    simp (a, b, e₂, k, e₃, e₄, e₅, t)

-- an item that is not the first wrong one, and no later one is
pub later_none : {X : Type 0} (r : Result X Layer) (place : ℕ) (later : Option Fault) → or_later r place later ≡ None
    → ((x : X) × (r ≡ Ok x)) × (later ≡ None)
later_none (Ok x) place later e = ((x, refl), e)
later_none (Err l) place later e = none_some _ e

module _ {X : Type 0} (w : ℕ) (reads : List ℕ → Option X) where
  -- what is told of octets that are read with a letter
  pub record Told (n m : ℕ) (o : List ℕ) (l : Letter) : Type 0 where
    pub nodes : bad_size n ≡ false
    pub items : bad_size m ≡ false
    pub long : 5 ≤ length o
    pub letter : letter_octet l ≡ get_or o 0 0
    pub count : get_or o 4 0 ≡ m
    pub size : length o ≡ 5 + body_length w l m
    pub sender : get_or o 3 0 < n
    pub turn : takes_step l (pair_at o 1) ≡ true
    pub body : body_fault w reads l m (drop 5 o) ≡ None

  -- where octets are read it is told, and the parts are those of the octets
  pub told : (n m : ℕ) (o : List ℕ) (p : Parts) → read_answer w reads n m o ≡ Ok p → (l : Letter) × (Told n m o l × (parts_in l o ≡ p))
  told n m o p e =
      let e₁ = check_ok (bad_size n || bad_size m) BadSize 0 _ p e in
      let e₂ = check_ok (ltb (length o) 5) Torn (length o) _ p e₁.1 in
      let e₃ = with_letter_ok (letter_of (get_or o 0 0)) _ p e₂.1 in
      let l = e₃.0 in
      let e₄ = check_ok (not (eqb (get_or o 4 0) m) || not (eqb (length o) (5 + body_length w l m))) Torn (length o) _ p e₃.1.1 in
      let e₅ = check_ok (leb n (get_or o 3 0)) NoNode 3 _ p e₄.1 in
      let e₆ = check_ok (not (takes_step l (pair_at o 1))) OutOfTurn 1 _ p e₅.1 in
      let e₇ = unless_ok (body_fault w reads l m (drop 5 o)) (parts_in l o) p e₆.1 in
      let q = or_parts (bad_size n) (bad_size m) e₁.0 in
      let r = or_parts (not (eqb (get_or o 4 0) m)) (not (eqb (length o) (5 + body_length w l m))) e₄.0 in (
        l,
        (
          record {
            nodes = q.0;
            items = q.1;
            long = ltb-false (length o) 5 e₂.0;
            letter = letter_octet_of (get_or o 0 0) l e₃.1.0;
            count = eqb-true (get_or o 4 0) m (not-false (eqb (get_or o 4 0) m) r.0);
            size = eqb-true (length o) (5 + body_length w l m) (not-false _ r.1);
            sender = leb-false n (get_or o 3 0) e₅.0;
            turn = not-false (takes_step l (pair_at o 1)) e₆.0;
            body = e₇.0;
          },
          e₇.1,
        ),
      )
