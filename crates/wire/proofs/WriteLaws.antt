-- A message that is written.
use Rattle.std.proofs.Common.{◌≡◌, ℕ, ◌+◌, ◌-◌, ◌≤◌, not, ◌||◌, eqb, ltb, leb, List, ◌++◌, length, take, drop, Ok, Result, sym, ap, ◌∙◌, append_assoc, arith}
use borrow.Rule.Slice.PartMut.{put_mid}
use Rattle.std.proofs.lemmas.List.{take_at, drop_at, drop-drop}
use Rattle.refusal.specs.declared.Refusal.TheVariants.{Short}
use Rattle.refusal.specs.declared.Fault.{Fault}
use Rattle.wire.specs.declared.message.Letter.{Letter}
use Rattle.wire.specs.declared.message.Head.{Head}
use Rattle.wire.specs.Letters.{takes_step}
use Rattle.wire.specs.Faults.{bad_size}
use Rattle.wire.specs.Writes.{head_checks, room_check}
use Rattle.wire.proofs.CheckLaws.{check_ok}

-- where the checks of a head pass, later checks have the word
pub head_passed : {A B : Type 0} (h : Head Letter) (n m given : ℕ) (x : A) (later : Result B Fault) → head_checks h n m given (Ok x) ≡ Ok x
    → head_checks h n m given later ≡ later
head_passed h n m given x later p =
    let p₁ = check_ok (bad_size n || bad_size m) _ _ _ x p in
    let p₂ = check_ok (not (eqb given m)) _ _ _ x p₁.1 in
    let p₃ = check_ok (leb n h.node) _ _ _ x p₂.1 in
    let p₄ = check_ok (not (takes_step h.letter h.step)) _ _ _ x p₃.1 in
    simp (p₁.0, p₂.0, p₃.0, p₄.0)

-- where the place has room the whole length is written
pub room_passed : (k long places : ℕ) → Ok k ≡ room_check long places → k ≡ long
room_passed k long places e =
    let p = check_ok (ltb places long) Short 0 (Ok long) k (sym e) in
    cc p.1

-- a body of k octets in all, laid behind a head of five
pub laid : (out now head body : List ℕ) (k : ℕ) → now ≡ head ++ drop 5 out → length head ≡ 5 → 5 ≤ k
    → put_mid 5 (k - 5) now body ≡ (head ++ body) ++ drop k out
laid out now head body k e h l =
    let s : 5 + (k - 5) ≡ k = omega arith in
    let t : take 5 (head ++ drop 5 out) ≡ head = take_at head (drop 5 out) 5 h in
    let d : drop 5 (head ++ drop 5 out) ≡ drop 5 out = drop_at head (drop 5 out) 5 h in
    let f : drop (k - 5) (drop 5 (head ++ drop 5 out)) ≡ drop k out =
    ap (drop (k - 5)) d ∙ drop-drop (k - 5) 5 out ∙ ap (λ x. drop x out) s in
    ap (λ x. put_mid 5 (k - 5) x body) e
    ∙ ap (λ x. x ++ (body ++ drop (k - 5) (drop 5 (head ++ drop 5 out)))) t
    ∙ ap (λ x. head ++ (body ++ x)) f
    ∙ sym (append_assoc head body (drop k out))
