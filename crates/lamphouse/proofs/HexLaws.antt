-- What the octets of a field in hexadecimal come to, once they are written to lent places.
use Rattle.std.proofs.Common.{◌≡◌, ℕ, ◌≤◌, false, cond, ◌&&◌, ltb, leb, List, length, take, drop, Some, None, Ok, Err, Option, Result, sym, refl, ap, ◌∙◌, inl, inr, arith}
use Rattle.std.proofs.lemmas.List.{take_at}
use Rattle.std.proofs.lemmas.Bool.{cases_Bool, leb-true, le-ltb, and_parts}
use Rattle.reading.specs.Octets.{placed}
use Rattle.std.specs.Option.{option_map, ok_or}
use Rattle.std.specs.Result.{result_ok}
use Rattle.lines.specs.Digits.{and_then, octets_of, hex_octets_of, written}
use Rattle.lines.specs.Fields.{is_dash}
use Rattle.lamphouse.specs.Grammar.{cell_of}

-- where k octets came, they stand at the front of the places
pub front_of : (o : Option (List ℕ)) (places out : List ℕ) (k : ℕ) → Some k ≡ option_map (λ os. length os) o → out ≡ written o places → o ≡ Some (take k out)
front_of None places out k e w = absurd (let z : ◌≡◌ {A = ℕ} 0 1 = cc in omega arith)
front_of (Some os) places out k e w =
    let n : length os ≡ k = cc in
    ap Some (sym (ap (take k) w ∙ take_at os (drop (length os) places) k n))

-- what was read, by the answer that reading gave
pub read_ok : {R E : Type 0} (x : Option R) (r : R) (e : E) → Ok r ≡ ok_or x e → x ≡ Some r
read_ok None r e h = absurd (let z : ◌≡◌ {A = ℕ} 0 1 = cc in omega arith)
read_ok (Some s) r e h = cc

pub read_err : {R E : Type 0} (x : Option R) (d e : E) → Err d ≡ ok_or x e → x ≡ None
read_err None d e h = refl
read_err (Some s) d e h = absurd (let z : ◌≡◌ {A = ℕ} 0 1 = cc in omega arith)

-- why nothing was read
pub read_why : {R E : Type 0} (x : Option R) (d e : E) → Err d ≡ ok_or x e → d ≡ e
read_why None d e h = cc
read_why (Some s) d e h = absurd (let z : ◌≡◌ {A = ℕ} 0 1 = cc in omega arith)

-- what was read, as an option
pub read_as : {R E : Type 0} (x : Option R) (e : E) (a : Result R E) (o : Option R) → a ≡ ok_or x e → o ≡ result_ok a → o ≡ x
read_as None e a o h i = i ∙ ap result_ok h
read_as (Some r) e a o h i = i ∙ ap result_ok h

-- a cell's field that is no dash, and whose octets are read as x
pub cell_read : {R : Type 0} (reads : List ℕ → Option R) (f out : List ℕ) (k : ℕ) (x : Option R) → false ≡ is_dash f → hex_octets_of 8 f ≡ Some (take k out) → x ≡ reads (take k out)
    → option_map Some x ≡ cell_of reads f
cell_read reads f out k x d h e = rw (← d, h, ← e)

-- octets of a width up to that of the place stand at its front
pub front_placed : (o place out : List ℕ) (w k : ℕ) → length o ≡ w → k ≡ w → w ≤ length place → out ≡ placed w o place → take k out ≡ o
front_placed o place out w k l e h p =
    let f : ltb (length place) w ≡ false = le-ltb (length place) w h in
    ap (take k) (p ∙ rw f) ∙ take_at o (drop w place) k (l ∙ sym e)

-- no more octets came than there are places
few_if : (o : Option (List ℕ)) (places k : ℕ) → Some k ≡ option_map (λ os. length os) (and_then o (λ os. cond (ltb 0 (length os) && leb (length os) places) (Some os) None)) → k ≤ places
few_if None places k e = absurd (let z : ◌≡◌ {A = ℕ} 0 1 = cc in omega arith)
few_if (Some os) places k e = elim (cases_Bool (ltb 0 (length os) && leb (length os) places)) [
  | inl t ↦ (
      let n : k ≡ length os = (let h : Some k ≡ Some (length os) = rw t at e in cc) in
      let l = leb-true (length os) places (and_parts (ltb 0 (length os)) (leb (length os) places) t).1 in
      omega arith)
  | inr f ↦ absurd (let h : Some k ≡ None = rw f at e in let z : ◌≡◌ {A = ℕ} 0 1 = cc in omega arith)
]

pub few_of : (places k : ℕ) (f : List ℕ) → Some k ≡ option_map (λ os. length os) (hex_octets_of places f) → k ≤ places
few_of places k f e = few_if (octets_of f) places k e
