-- Elements that are put at the front of a place, one by one or one part behind another.
use Rattle.std.proofs.Common.{◌≡◌, ℕ, ◌+◌, ◌-◌, ◌<◌, ◌≤◌, min, true, false, ltb, List, [], ◌∷◌, ◌++◌, length, take, drop, set, Ok, Err, sym, ap, ◌∙◌, inl, inr, arith}
use borrow.Rule.Slice.PartMut.{put_mid}
use Rattle.refusal.specs.declared.Refusal.TheVariants.{Short}
use Rattle.refusal.specs.Refusals.{answered}
use Rattle.std.proofs.lemmas.List.{append-nil, append_assoc, length-append, length-take, length_push, take_all, take_at, take-append-le, drop_all, drop_at, drop-drop, drop_more, set_at, set_past}
use Rattle.std.proofs.lemmas.Bool.{cases_lt, lt-ltb, le-ltb, cond-true, cond-false}
use Rattle.reading.specs.Octets.{room, placed}
use Rattle.controller.specs.Places.{laid, put_front}

-- where there is room for all of them
laid_all : {X : Type 0} (xs place : List X) → length xs ≤ length place → laid xs place ≡ xs ++ drop (length xs) place
laid_all xs place h = ap (λ ys. ys ++ drop (length xs) place) (take_all (length place) xs h)

-- where there is room for no more
laid_full : {X : Type 0} (xs place : List X) → length place ≤ length xs → laid xs place ≡ take (length place) xs
laid_full xs place h = ap (λ ys. take (length place) xs ++ ys) (drop_all (length xs) place h) ∙ append-nil (take (length place) xs)

-- none yet
pub laid_none : {X : Type 0} (place : List X) → place ≡ laid [] place
laid_none place = sym (laid_all [] place (omega arith))

-- one more
pub laid_more : {X : Type 0} (xs place : List X) (i : ℕ) (x : X) → length xs ≡ i → set (laid xs place) i x ≡ laid (xs ++ x ∷ []) place
laid_more xs place i x e =
    let l : length (xs ++ x ∷ []) ≡ length xs + 1 = length_push xs x in
    elim (cases_lt i (length place)) [
      | inl h ↦
          let a : length xs < length place = omega arith in
          ap (λ ys. set ys i x) (laid_all xs place (omega arith)
          ∙ ap (λ ys. xs ++ ys) (drop_more place (length xs) x a))
          ∙ set_at xs _ (drop (length xs + 1) place) x i e
          ∙ sym (append_assoc xs (x ∷ []) (drop (length xs + 1) place))
          ∙ ap (λ n. (xs ++ x ∷ []) ++ drop n place) (sym l)
          ∙ sym (laid_all (xs ++ x ∷ []) place (omega arith))
      | inr h ↦
          let k : length (take (length place) xs) ≤ i = omega (arith, length-take (length place) xs) in
          ap (λ ys. set ys i x) (laid_full xs place (omega arith))
          ∙ set_past (take (length place) xs) i x k
          ∙ sym (take-append-le (length place) xs (x ∷ []) (omega arith))
          ∙ sym (laid_full (xs ++ x ∷ []) place (omega arith))
    ]

-- those that found room
pub laid_front : {X : Type 0} (xs place : List X) (n k : ℕ) → length place ≡ n → k ≡ min (length xs) n → take (k - 0) (laid xs place) ≡ take n xs
laid_front xs place n k l e =
    elim (cases_lt n (length xs)) [
      | inl h ↦
          let z : k - 0 ≡ n = omega arith in
          ap (λ ys. take (k - 0) ys) (laid_full xs place (omega arith) ∙ ap (λ m. take m xs) l)
          ∙ take_all (k - 0) (take n xs) (omega (arith, length-take n xs))
      | inr h ↦
          let z : length xs ≡ k - 0 = omega arith in
          ap (λ ys. take (k - 0) ys) (laid_all xs place (omega arith))
          ∙ take_at xs (drop (length xs) place) (k - 0) z
          ∙ sym (take_all n xs h)
    ]

-- octets put behind others
pub put_behind : (a b place now ys : List ℕ) (n k : ℕ) → length a ≡ n → k ≡ length b → now ≡ put_front a place → ys ≡ b
    → put_mid n k now ys ≡ put_front (a ++ b) place
put_behind a b place now ys n k l h e f =
    let d : drop n now ≡ drop n place = ap (drop n) e ∙ drop_at a (drop (length a) place) n l ∙ ap (λ j. drop j place) l in
    let t : take n now ≡ a = ap (take n) e ∙ take_at a (drop (length a) place) n l in
    let z : n + length b ≡ length (a ++ b) = omega (arith, length-append a b) in
    ap (λ x. x ++ (ys ++ drop k (drop n now))) t
    ∙ ap (λ x. a ++ (x ++ drop k (drop n now))) f
    ∙ ap (λ x. a ++ (b ++ x)) (ap (drop k) d ∙ ap (λ j. drop j (drop n place)) h ∙ drop-drop (length b) n place)
    ∙ sym (append_assoc a b (drop (n + length b) place))
    ∙ ap (λ j. (a ++ b) ++ drop j place) z

-- a place that is too short
pub short_room : {X : Type 0} (n : ℕ) (place : List ℕ) (x : X) → length place < n → Err Short ≡ answered (room n place) x
short_room n place x h = let b : ltb (length place) n ≡ true = lt-ltb (length place) n h in rw b

pub short_placed : (n : ℕ) (o place : List ℕ) → length place < n → place ≡ placed n o place
short_placed n o place h = sym (cond-true (ltb (length place) n) place (o ++ drop n place) (lt-ltb (length place) n h))

-- a place that has room
pub enough_room : {X : Type 0} (n : ℕ) (place : List ℕ) (x : X) → n ≤ length place → Ok x ≡ answered (room n place) x
enough_room n place x h = let b : ltb (length place) n ≡ false = le-ltb (length place) n h in rw b

pub enough_placed : (o place : List ℕ) → length o ≤ length place → put_front o place ≡ placed (length o) o place
enough_placed o place h =
    sym (cond-false (ltb (length place) (length o)) place (o ++ drop (length o) place) (le-ltb (length place) (length o) h))
