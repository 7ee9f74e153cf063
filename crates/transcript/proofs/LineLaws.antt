-- A harbour answers an input line by line.
use Rattle.std.proofs.Common.{◌≡◌, ℕ, ◌+◌, ◌^◌, ◌<◌, Bool, true, false, eqb, ltb, leb, List, [], ◌∷◌, ◌++◌, length, Ok, Err, Option, Result, sym, refl, ap, ◌∙◌, inl, inr, mod-eq_of_lt, arith}
use Rattle.std.proofs.lemmas.List.{append_assoc, append-nil}
use Rattle.std.proofs.lemmas.Bool.{cases_Bool, leb-false, lt-ltb, or_right}
use Rattle.lines.specs.Fields.{fields, in_front}
use Rattle.lines.specs.Gathered.{gathered}
use Rattle.lines.specs.Coming.{next}
use Rattle.lines.proofs.Gathering.{gathered_push}
use Rattle.lines.proofs.Parting.{some_field, all_in_front, front_push, front_none}
use Rattle.spelling.specs.Texts.{Wrote}
use Rattle.transcript.specs.Answers.{Answer}
use Rattle.transcript.specs.Runs.{Standing, fresh, seen_as, run_served, Answers}
use Rattle.transcript.specs.Harbours.{View, before, line_served, ended, took, gathers, fed, finished}
use Rattle.transcript.specs.Transcripts.{counted, lines_in, answers_from, answers_to}
use Rattle.transcript.proofs.HarbourLaws.{torn_line}

-- whether there is an octet
abbrev some : List ℕ → Bool
some [] = false
some (b ∷ bs) = true

-- a harbour to which these octets of a line have come
abbrev coming : ℕ → Standing → List ℕ → View
coming n s acc = record { number = n; line = gathered 60 acc; begun = some acc; run = s }

-- the text that these octets and the end of the input bring
abbrev pub told : View → List ℕ → List ℕ
told v bs = (fed v bs).text ++ (finished (fed v bs).after).text

told_more : (v : View) (b : ℕ) (bs : List ℕ) → told v (b ∷ bs) ≡ (took v b).text ++ told (took v b).after bs
told_more v b bs = append_assoc (took v b).text (fed (took v b).after bs).text (finished (fed (took v b).after bs).after).text

some_push : (acc : List ℕ) (b : ℕ) → true ≡ some (acc ++ (b ∷ []))
some_push [] b = refl
some_push (a ∷ acc) b = refl

-- one more octet of a line
coming_push : (n : ℕ) (s : Standing) (acc : List ℕ) (b : ℕ) → (gathers (coming n s acc) b).after ≡ coming n s (acc ++ (b ∷ []))
coming_push n s acc b =
    let put : Option (List ℕ) → Bool → View = λ l k. record { number = n; line = l; begun = k; run = s } in
    ap (λ l. put l true) (gathered_push 60 acc b) ∙ ap (λ k. put (gathered 60 (acc ++ (b ∷ []))) k) (some_push acc b)

-- what has come of a line is answered as the line is
served_gathered : (s : Standing) (n : ℕ) (acc : List ℕ) → line_served s n (gathered 60 acc) ≡ run_served s n acc
served_gathered s n acc =
    elim (cases_Bool (leb (length acc) 60)) [
      | inl e ↦ (rw e)
      | inr e ↦ rw e (sym (torn_line s n acc (or_right (eqb (length acc) 0) (ltb 60 (length acc)) (lt-ltb 60 (length acc) (leb-false (length acc) 60 e)))))
    ]

-- the end of a line
ended_line : (n : ℕ) (s : Standing) (acc : List ℕ) → n + 1 < 2 ^ 64 → ended (coming n s acc) ≡ seen_as (λ t. coming (n + 1) t []) (run_served s n acc)
unfolding ended
ended_line n s acc h =
    ap (seen_as (before (next n))) (served_gathered s n acc) ∙ ap (λ k. seen_as (before k) (run_served s n acc)) (mod-eq_of_lt h)

-- a line before others counts
counted_more : (l : List ℕ) (fs : List (List ℕ)) → 0 < length fs → counted (l ∷ fs) ≡ l ∷ counted fs
counted_more l [] h = absurd (omega arith)
counted_more [] (f ∷ fs) h = refl
counted_more (b ∷ bs) (f ∷ fs) h = refl

-- the end of the input
finished_line : (n : ℕ) (s : Standing) (acc : List ℕ) → (finished (coming n s acc)).text ≡ answers_from n s (counted (acc ∷ []))
unfolding ended
finished_line n s [] = refl
finished_line n s (b ∷ bs) = ap (λ (a : Answer Standing). a.text) (served_gathered s n (b ∷ bs)) ∙ sym (append-nil (run_served s n (b ∷ bs)).text)

-- the text is that of the lines, where the number of the last has 64 bits
pub line_by_line : (bs : List ℕ) (n : ℕ) (s : Standing) (acc : List ℕ) → n + length bs < 2 ^ 64 → told (coming n s acc) bs ≡ answers_from n s (counted (all_in_front acc (fields 10 bs)))
line_by_line [] n s acc h = finished_line n s acc ∙ ap (λ l. answers_from n s (counted (l ∷ []))) (sym (append-nil acc))
line_by_line (b ∷ bs) n s acc h =
    let v = coming n s acc in
    let rest = fields 10 bs in
    let a = run_served s n acc in
    elim (cases_Bool (eqb b 10)) [
      | inl e ↦
          let at : took v b ≡ ended v = (rw e) in
          let parts : fields 10 (b ∷ bs) ≡ [] ∷ rest = (rw e) in
          told_more v b bs ∙ ap (λ (x : Answer View). x.text ++ told x.after bs) (at ∙ ended_line n s acc (omega arith))
          ∙ ap (λ t. a.text ++ t) (line_by_line bs (n + 1) a.after [] (omega arith) ∙ ap (λ fs. answers_from (n + 1) a.after (counted fs)) (sym (front_none rest (some_field 10 bs))))
          ∙ ap (λ l. answers_from n s (l ∷ counted rest)) (sym (append-nil acc))
          ∙ ap (λ ls. answers_from n s ls) (sym (counted_more (acc ++ []) rest (some_field 10 bs)))
          ∙ ap (λ fs. answers_from n s (counted (all_in_front acc fs))) (sym parts)
      | inr e ↦
          let at : took v b ≡ gathers v b = (rw e) in
          let parts : fields 10 (b ∷ bs) ≡ in_front b rest = (rw e) in
          told_more v b bs ∙ ap (λ (x : Answer View). x.text ++ told x.after bs) at ∙ ap (λ w. told w bs) (coming_push n s acc b)
          ∙ line_by_line bs n s (acc ++ (b ∷ [])) (omega arith)
          ∙ ap (λ fs. answers_from n s (counted fs)) (sym (front_push acc b rest (some_field 10 bs)))
          ∙ ap (λ fs. answers_from n s (counted (all_in_front acc fs))) (sym parts)
    ]

-- a new harbour that was fed the whole input, to its end
pub transcribed : {X E : Type 0} (r : Result X E) (t0 t1 t2 : List ℕ) (v0 v1 v2 : View) (input : List ℕ) → 1 + length input < 2 ^ 64 → v0 ≡ before 1 fresh
    → (t1 ≡ t0 ++ (fed v0 input).text) × (v1 ≡ (fed v0 input).after) → Answers r t1 t2 v2 (finished v1) → Wrote r t0 t2 (answers_to (lines_in input))
transcribed (Ok x) t0 t1 t2 v0 v1 v2 input h n f a =
    a.0 ∙ ap (λ v. t1 ++ (finished v).text) f.1 ∙ ap (λ t. t ++ (finished (fed v0 input).after).text) f.0
    ∙ append_assoc t0 (fed v0 input).text (finished (fed v0 input).after).text
    ∙ ap (λ v. t0 ++ told v input) n
    ∙ ap (λ t. t0 ++ t) (line_by_line input 1 fresh [] h ∙ ap (λ fs. answers_to (counted fs)) (sym (front_none (fields 10 input) (some_field 10 input))))
transcribed (Err e) t0 t1 t2 v0 v1 v2 input h n f a = tt
