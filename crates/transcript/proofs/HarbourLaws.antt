-- Lines that come in octet by octet.
use Rattle.std.proofs.Common.{◌≡◌, ℕ, ◌+◌, ◌<◌, ◌≤◌, true, ◌||◌, eqb, ltb, List, [], ◌∷◌, ◌++◌, length, get_or, drop, Some, None, Err, Option, sym, refl, ap, ◌∙◌, subst, add-one, arith, drop-cons}
use Rattle.std.proofs.lemmas.List.{append_assoc, append-nil, drop_all}
use Rattle.refusal.specs.declared.Refusal.{Refusal}
use Rattle.refusal.specs.declared.Refusal.TheVariants.{Torn}
use Rattle.lines.specs.Gathered.{line_answer}
use Rattle.transcript.specs.Answers.{Answer, refuses, served}
use Rattle.transcript.specs.Runs.{Standing, fresh, bearings, lamps, first_run, run_served}
use Rattle.transcript.specs.Harbours.{View, line_served, took, followed, fed}

-- a line of no octet, or of more than 60, is torn for every run
pub torn_line : (s : Standing) (n : ℕ) (octets : List ℕ) → (eqb (length octets) 0 || ltb 60 (length octets)) ≡ true → run_served s n octets ≡ refuses s n Torn
unfolding run_served first_run served
torn_line fresh n octets e = rw e
torn_line (bearings h) n octets e = rw e
torn_line (lamps h) n octets e = rw e

-- a line that is not taken is refused
pub not_taken : (s : Standing) (n : ℕ) (l : Option (List ℕ)) (e : Refusal) → Err e ≡ line_answer l → refuses s n e ≡ line_served s n l
not_taken s n None e h = let t : e ≡ Torn = cc in ap (refuses s n) t
not_taken s n (Some []) e h = let t : e ≡ Torn = cc in ap (refuses s n) t ∙ sym (torn_line s n [] refl)
not_taken s n (Some (b ∷ bs)) e h = absurd (let z : ◌≡◌ {A = ℕ} 0 1 = cc in omega arith)

-- octets that come in two parts
fed_append : (v : View) (xs bs : List ℕ) → fed v (xs ++ bs) ≡ followed (fed v xs) (λ w. fed w bs)
fed_append v [] bs = refl
fed_append v (a ∷ xs) bs =
    let t = (took v a).text in
    let w = (took v a).after in
    let rest = fed (fed w xs).after bs in
    let put : Answer View → Answer View = λ x. record { text = t ++ x.text; after = x.after } in
    ap put (fed_append w xs bs) ∙ ap (λ os. record { text = os; after = rest.after }) (sym (append_assoc t (fed w xs).text rest.text))

-- What was answered, and what is to come of these octets, make up the whole.
pub record Feeds (whole : List ℕ) (last : View) (said : List ℕ) (v : View) (octets : List ℕ) : Type 0 where
  pub text : said ++ (fed v octets).text ≡ whole
  pub after : (fed v octets).after ≡ last

module _ (whole : List ℕ) (last : View) where
  -- one more octet
  one_more : (old new : List ℕ) (v w : View) (b : ℕ) (bs : List ℕ) → new ≡ old ++ (took v b).text → w ≡ (took v b).after → Feeds whole last old v (b ∷ bs) → Feeds whole last new w bs
  one_more old new v w b bs e a h =
      let a1 : Answer View = took v b in
      record {
        text = ap (λ x. new ++ (fed x bs).text) a ∙ ap (λ x. x ++ (fed a1.after bs).text) e ∙ append_assoc old a1.text (fed a1.after bs).text ∙ h.text;
        after = ap (λ x. (fed x bs).after) a ∙ h.after;
      }

  pub feeds_more : (old new : List ℕ) (v w : View) (bs : List ℕ) (i : ℕ) → i < length bs → new ≡ old ++ (took v (get_or bs i 0)).text → w ≡ (took v (get_or bs i 0)).after
      → Feeds whole last old v (drop i bs) → Feeds whole last new w (drop (i + 1) bs)
  feeds_more old new v w bs i h e a f = rw add-one (one_more old new v w (get_or bs i 0) _ e a (rw (drop-cons bs i 0 h) at f))

  -- one more part
  one_part : (old new : List ℕ) (v w : View) (xs bs : List ℕ) → new ≡ old ++ (fed v xs).text → w ≡ (fed v xs).after → Feeds whole last old v (xs ++ bs) → Feeds whole last new w bs
  one_part old new v w xs bs e a h =
      let both = fed_append v xs bs in
      let mid = fed v xs in
      record {
        text = ap (λ x. new ++ (fed x bs).text) a ∙ ap (λ x. x ++ (fed mid.after bs).text) e ∙ append_assoc old mid.text (fed mid.after bs).text
            ∙ sym (ap (λ (x : Answer View). old ++ x.text) both) ∙ h.text;
        after = ap (λ x. (fed x bs).after) a ∙ sym (ap (λ (x : Answer View). x.after) both) ∙ h.after;
      }

  pub feeds_part : (old new : List ℕ) (v w : View) (all xs bs : List ℕ) → all ≡ xs ++ bs → new ≡ old ++ (fed v xs).text → w ≡ (fed v xs).after → Feeds whole last old v all → Feeds whole last new w bs
  feeds_part old new v w all xs bs parts e a f = one_part old new v w xs bs e a (subst (λ ys. Feeds whole last old v ys) parts f)

  -- no more octets
  pub feeds_all : (new : List ℕ) (w : View) (bs : List ℕ) (i : ℕ) → length bs ≤ i → Feeds whole last new w (drop i bs) → (new ≡ whole) × (w ≡ last)
  feeds_all new w bs i h f =
      let e = drop_all i bs h in
      (sym (append-nil new) ∙ sym (ap (λ x. new ++ (fed w x).text) e) ∙ f.text, sym (ap (λ x. (fed w x).after) e) ∙ f.after)
