-- The law of the answers that a script writes.
use Rattle.std.proofs.Common.{◌≡◌, ℕ, ◌+◌, ◌*◌, ◌<◌, ◌≤◌, Bool, true, false, ◌&&◌, leb, List, [], ◌∷◌, ◌++◌, map, length, drop, replicate, Some, None, Option, sym, refl, ap, ◌∙◌, subst, ap₂, inl, inr, arith, Result}
use Rattle.std.proofs.lemmas.List.{append-nil, length-append, length-replicate, length-map, drop_at}
use Rattle.std.proofs.lemmas.Bool.{true≢false, cases_Bool, leb-true, le-leb}
use Rattle.refusal.specs.declared.Refusal.{Refusal}
use Rattle.board.specs.declared.states.Table.{Table}
use Rattle.agreement.specs.declared.states.Instance.{Instance}
use Rattle.board.specs.Tables.{fits}
use Rattle.board.specs.Setups.{blank_values, blank_marks, if_accepted}
use Rattle.law.specs.declared.calls.SetupCall.{SetupCall}
use Rattle.law.specs.declared.calls.Call.{Call}
use Rattle.law.specs.declared.calls.Call.TheVariants as call
use Rattle.law.specs.declared.calls.Told.{Told}
use Rattle.law.specs.Runs.{Tosses, Prepared, SetupMove, setup_after, setup_answer, setup_history, World, Move, refusal, effect, answered_by, after, history, outcome_history}
use Rattle.law.specs.Law.{Sizes, Boards, Plain, with_coin, asked, faulty_count, Kept, TossesAlike, Delayed}
use Rattle.law.proofs.Lawful.{law}
use Rattle.board.proofs.Boards.{length_written}
use Rattle.play.specs.Moves.{Lent, fits_call, move_of, moves_of, setup_move_of, setup_moves_of, setup_says, call_says}
use Rattle.play.specs.Played.{asked_first, first_world, asked_next, Ran, paired_setup, paired, blanked, FitAlike, new_table, Lawful}
use Rattle.play.proofs.Pushes.{length_setup_says}

module _ {R : Type 0} where
  -- the answers that were written, paired with their calls
  paired_setup_says : (p : Prepared R) (F : SetupCall R → SetupMove R) → ((k : SetupCall R) → (F k).call ≡ k) → (ks : List (SetupCall R)) (rest : List (Result (Told R) Refusal)) →
      paired_setup ks (setup_says (setup_history p (map F ks)) ++ rest) ≡ setup_history p (map F ks)
  unfolding setup_history
  paired_setup_says p F e [] rest = refl
  paired_setup_says p F e (k ∷ ks) rest =
      ap₂ (λ c h. record { call = c; answer = setup_answer p (F k) } ∷ h) (sym (e k)) (paired_setup_says (setup_after p (F k)) F e ks rest)

  paired_says : (meaning : R → ℕ) (w : World R) (F : Call R → Move R) → ((k : Call R) → (F k).call ≡ k) → (ks : List (Call R)) (rest : List (Result (Told R) Refusal)) →
      paired ks (call_says (history meaning w (map F ks)) ++ rest) ≡ history meaning w (map F ks)
  unfolding history
  paired_says meaning w F e [] rest = refl
  paired_says meaning w F e (k ∷ ks) rest =
      ap₂ (λ c h. record { call = c; answer = answered_by w (F k).fits (F k).call } ∷ h) (sym (e k)) (paired_says meaning (after meaning w (F k)) F e ks rest)

  -- a world with another sent board
  abbrev with_sent : World R → List (Option R) → World R
  with_sent w s = record { state = w.state; values = w.values; sent = s; marks = w.marks }

  -- where the sent board is too short, no call looks at it
  module _ (meaning : R → ℕ) (n m : ℕ) (b : Lent R) (f : Tosses) (short : fits (n * n * m) b.sent ≡ false) where
    value_blind : (w : World R) (s : List (Option R)) (i j c : ℕ) (x : Option R) (y : Bool) → y ≡ false →
        if_accepted (refusal (with_sent w s) y (call.SendValue i j c x)) (effect meaning f (with_sent w s) (call.SendValue i j c x)) (with_sent w s)
        ≡ with_sent (if_accepted (refusal w y (call.SendValue i j c x)) (effect meaning f w (call.SendValue i j c x)) w) s
    value_blind w s i j c x true e = absurd (true≢false e)
    value_blind w s i j c x false e = refl

    close_blind : (w : World R) (s : List (Option R)) (y : Bool) → y ≡ false →
        if_accepted (refusal (with_sent w s) y call.Close) (effect meaning f (with_sent w s) call.Close) (with_sent w s)
        ≡ with_sent (if_accepted (refusal w y call.Close) (effect meaning f w call.Close) w) s
    close_blind w s true e = absurd (true≢false e)
    close_blind w s false e = refl

    -- a call that keeps the sent board
    other_blind : (w : World R) (s : List (Option R)) (u : World R) (o : Option Refusal) → if_accepted o (with_sent u s) (with_sent w s) ≡ with_sent (if_accepted o u w) s
    other_blind w s u None = refl
    other_blind w s u (Some e) = refl

    no_value : (x : Bool) → (fits (n * n * m) b.sent && x) ≡ false
    no_value x = ap (λ y. y && x) short

    no_close : (x y z : Bool) → (x && (y && (fits (n * n * m) b.sent && z))) ≡ false
    no_close x y z = ap (λ u. x && (y && (u && z))) short ∙ go x y
      where
        go : (x y : Bool) → (x && (y && false)) ≡ false
        go true true = refl
        go true false = refl
        go false y = refl

    after_blind : (w : World R) (s : List (Option R)) (k : Call R) → after meaning (with_sent w s) (move_of n m b f k) ≡ with_sent (after meaning w (move_of n m b f k)) s
    unfolding after
    after_blind w s (call.SendValue i j c x) = value_blind w s i j c x _ (no_value _)
    after_blind w s (call.SendBit i j c x) =
        other_blind w s (effect meaning f w (call.SendBit i j c x)) (refusal w (fits_call n m b (call.SendBit i j c x)) (call.SendBit i j c x))
    after_blind w s (call.SendFinal i j) = other_blind w s (effect meaning f w (call.SendFinal i j)) (refusal w true (call.SendFinal i j))
    after_blind w s call.Close = close_blind w s _ (no_close (fits (n * m) b.values) (fits (n * m) b.scratch) (fits (n * n * m) b.marks))
    after_blind w s (call.Decision i c) = other_blind w s w (refusal w (fits_call n m b (call.Decision i c)) (call.Decision i c))
    after_blind w s (call.Undecided p) = other_blind w s w (refusal w true (call.Undecided p))

    answer_blind : (w : World R) (s : List (Option R)) (y : Bool) (k : Call R) → answered_by (with_sent w s) y k ≡ answered_by w y k
    unfolding answered_by
    answer_blind w s y (call.SendValue i j c x) = refl
    answer_blind w s y (call.SendBit i j c x) = refl
    answer_blind w s y (call.SendFinal i j) = refl
    answer_blind w s y call.Close = refl
    answer_blind w s y (call.Decision i c) = refl
    answer_blind w s y (call.Undecided p) = refl

    history_blind : (w : World R) (s : List (Option R)) (ks : List (Call R)) → history meaning (with_sent w s) (moves_of n m b f ks) ≡ history meaning w (moves_of n m b f ks)
    unfolding history
    history_blind w s [] = refl
    history_blind w s (k ∷ ks) =
        ap₂ (λ a h. record { call = k; answer = a } ∷ h) (answer_blind w s (fits_call n m b k) k)
        (ap (λ u. history meaning u (moves_of n m b f ks)) (after_blind w s k) ∙ history_blind (after meaning w (move_of n m b f k)) s ks)

  -- a sent board that is long enough, on which the calls answer as on this one
  record Padded (meaning : R → ℕ) (n m : ℕ) (b : Lent R) : Type 0 where
    board : List (Option R)
    long : n * n * m ≤ length board
    same : (f : Tosses) (s : Instance) (values : List (Option R)) (marks : List ℕ) (ks : List (Call R)) →
        history meaning (record { state = s; values = values; sent = board; marks = marks }) (moves_of n m b f ks)
        ≡ history meaning (record { state = s; values = values; sent = b.sent; marks = marks }) (moves_of n m b f ks)

  padded : (meaning : R → ℕ) (n m : ℕ) (b : Lent R) → Padded meaning n m b
  padded meaning n m b =
      elim (cases_Bool (fits (n * n * m) b.sent)) [
        | inl e ↦ record { board = b.sent; long = leb-true (n * n * m) (length b.sent) e; same = λ f s values marks ks. refl }
        | inr e ↦
            let l = length-append b.sent (replicate (n * n * m) None) in
            let r = length-replicate {A = Option R} (n * n * m) None in
            record {
              board = b.sent ++ replicate (n * n * m) None;
              long = omega arith;
              same = λ f s values marks ks. history_blind meaning n m b f e (record { state = s; values = values; sent = b.sent; marks = marks }) (b.sent ++ replicate (n * n * m) None) ks;
            }
      ]

  module _ (meaning : R → ℕ) (n m : ℕ) (sizes : Sizes n m) where
    -- the boards of the law
    boards : (b : Lent R) → n * m ≤ length b.values → n * n * m ≤ length b.marks → (s : List (Option R)) → n * n * m ≤ length s → Boards R n m
    boards b lv lm s ls = record { values = b.values; sent = s; marks = b.marks; long_values = lv; long_sent = ls; long_marks = lm }

    plain : (b : Lent R) → List (Call R) → List (Plain R)
    plain b cs = map (λ k. record { call = k; fits = fits_call n m b k }) cs

    coined : (b : Lent R) (f : Tosses) (ks : List (SetupMove R)) (cs : List (Call R)) → (with_coin f ks (plain b cs) []).moves ≡ moves_of n m b f cs
    unfolding plain
    coined b f ks [] = refl
    coined b f ks (c ∷ cs) = ap (λ vs. move_of n m b f c ∷ vs) (coined b f ks cs)

    abbrev table : Table
    table = new_table n m sizes

    -- the law's history of a run with one coin is ours
    same_asked : (b : Lent R) (lv : n * m ≤ length b.values) (lm : n * n * m ≤ length b.marks) (f : Tosses) (ks : List (SetupCall R)) (cs : List (Call R)) →
        (P : Padded meaning n m (blanked n m b)) →
        asked meaning n m sizes (boards b lv lm P.board P.long) (with_coin f (setup_moves_of n m (blanked n m b).values ks) (plain (blanked n m b) cs) [])
        ≡ asked_next meaning f table (blanked n m b) ks cs
    unfolding boards outcome_history
    same_asked b lv lm f ks cs P =
        let ws = setup_moves_of n m (blanked n m b).values ks in
        let w = first_world table (blanked n m b) ks in
        append-nil _
        ∙ ap (λ vs. history meaning (with_sent w P.board) vs) (coined (blanked n m b) f ws cs)
        ∙ P.same f w.state w.values w.marks cs

    law_kept : (b : Lent R) → n * m ≤ length b.values → n * n * m ≤ length b.marks → (f : Tosses) (ks : List (SetupCall R)) (cs : List (Call R)) →
        3 * faulty_count (asked_first table (blanked n m b) ks) n < n → Kept meaning n m (asked_first table (blanked n m b) ks) (asked_next meaning f table (blanked n m b) ks cs)
    unfolding boards
    law_kept b lv lm f ks cs few =
        let P = padded meaning n m (blanked n m b) in
        subst (λ h. Kept meaning n m (asked_first table (blanked n m b) ks) h) (same_asked b lv lm f ks cs P)
        ((law meaning).kept n m sizes (boards b lv lm P.board P.long) (with_coin f (setup_moves_of n m (blanked n m b).values ks) (plain (blanked n m b) cs) []) few)

    -- boards that fit alike after the making of a setup too
    blank_values_fit : (b b' : Lent R) → fits (n * m) b.values ≡ fits (n * m) b'.values → fits (n * m) (blank_values n m b.values) ≡ fits (n * m) (blank_values n m b'.values)
    blank_values_fit b b' e =
        ap (leb (n * m)) (length_written (n * m) (λ _. None) b.values) ∙ e ∙ sym (ap (leb (n * m)) (length_written (n * m) (λ _. None) b'.values))

    blank_marks_fit : (b b' : Lent R) → fits (n * n * m) b.marks ≡ fits (n * n * m) b'.marks → fits (n * n * m) (blank_marks n m b.marks) ≡ fits (n * n * m) (blank_marks n m b'.marks)
    blank_marks_fit b b' e =
        ap (leb (n * n * m)) (length_written (n * n * m) (λ _. 0) b.marks) ∙ e ∙ sym (ap (leb (n * n * m)) (length_written (n * n * m) (λ _. 0) b'.marks))

    module _ (b b' : Lent R) (e : FitAlike n m b b') where
      values_fit : fits (n * m) (blanked n m b').values ≡ fits (n * m) (blanked n m b).values
      values_fit = blank_values_fit b' b e.values

      marks_fit : fits (n * n * m) (blanked n m b').marks ≡ fits (n * n * m) (blanked n m b).marks
      marks_fit = blank_marks_fit b' b e.marks

      alike_fits : (k : Call R) → fits_call n m (blanked n m b') k ≡ fits_call n m (blanked n m b) k
      alike_fits (call.SendValue i j c x) = ap₂ ◌&&◌ e.sent marks_fit
      alike_fits (call.SendBit i j c x) = marks_fit
      alike_fits (call.SendFinal i j) = refl
      alike_fits call.Close = ap₂ ◌&&◌ values_fit (ap₂ ◌&&◌ e.scratch (ap₂ ◌&&◌ e.sent marks_fit))
      alike_fits (call.Decision i c) = values_fit
      alike_fits (call.Undecided p) = refl

      alike_plain : (cs : List (Call R)) → plain (blanked n m b') cs ≡ plain (blanked n m b) cs
      unfolding plain
      alike_plain [] = refl
      alike_plain (c ∷ cs) = ap₂ (λ x ps. record { call = c; fits = x } ∷ ps) (alike_fits c) (alike_plain cs)

      alike_setup : (ks : List (SetupCall R)) → setup_moves_of n m (blanked n m b').values ks ≡ setup_moves_of n m (blanked n m b).values ks
      alike_setup ks = ap (λ x. map (λ k. record { call = k; fits = x }) ks) values_fit

    law_delay : (b b' : Lent R) → n * m ≤ length b.values → n * n * m ≤ length b.marks → n * m ≤ length b'.values → n * n * m ≤ length b'.marks →
        FitAlike n m b b' → (f f' : Tosses) (ks : List (SetupCall R)) (cs : List (Call R)) → 3 * faulty_count (asked_first table (blanked n m b) ks) n < n →
        TossesAlike (asked_first table (blanked n m b) ks) n f → TossesAlike (asked_first table (blanked n m b) ks) n f' →
        Delayed n (asked_first table (blanked n m b) ks) (asked_next meaning f table (blanked n m b) ks cs) (asked_next meaning f' table (blanked n m b') ks cs) f f'
    unfolding boards
    law_delay b b' lv lm lv' lm' e f f' ks cs few tf tf' =
        let P = padded meaning n m (blanked n m b) in
        let P' = padded meaning n m (blanked n m b') in
        let vs = setup_moves_of n m (blanked n m b).values ks in
        let ps = plain (blanked n m b) cs in
        let h' : asked meaning n m sizes (boards b' lv' lm' P'.board P'.long) (with_coin f' vs ps []) ≡ asked_next meaning f' table (blanked n m b') ks cs =
        ap₂ (λ us qs. asked meaning n m sizes (boards b' lv' lm' P'.board P'.long) (with_coin f' us qs [])) (sym (alike_setup b b' e ks)) (sym (alike_plain b b' e cs))
        ∙ same_asked b' lv' lm' f' ks cs P' in
        subst (λ h. Delayed n (asked_first table (blanked n m b) ks) (asked_next meaning f table (blanked n m b) ks cs) h f f') h'
        (subst (λ h. Delayed n (asked_first table (blanked n m b) ks) h (asked meaning n m sizes (boards b' lv' lm' P'.board P'.long) (with_coin f' vs ps [])) f f')
        (same_asked b lv lm f ks cs P)
        ((law meaning).delay n m sizes (boards b lv lm P.board P.long) (boards b' lv' lm' P'.board P'.long) vs ps [] f f' few tf tf'))

    -- the boards that fit are long enough
    other_long : (b b' : Lent R) → FitAlike n m b b' → n * m ≤ length b.values → n * n * m ≤ length b.marks → (n * m ≤ length b'.values) × (n * n * m ≤ length b'.marks)
    other_long b b' e lv lm = (leb-true _ _ (e.values ∙ le-leb _ _ lv), leb-true _ _ (e.marks ∙ le-leb _ _ lm))

    -- the law of the answers that were written
    pub lawful : (f : Tosses) (b b' : Lent R) (ks : List (SetupCall R)) (cs : List (Call R)) (old answers : List (Result (Told R) Refusal)) → n * m ≤ length b.values → n * n * m ≤ length b.marks →
        Ran meaning f table (blanked n m b) ks cs b' old answers → Lawful meaning f n m ks cs sizes b (paired_setup ks answers) (paired cs (drop (length ks) answers))
    lawful f b b' ks cs old answers lv lm r =
        let B = blanked n m b in
        let F = setup_move_of n m B.values in
        let G = move_of n m B f in
        let tail = call_says (asked_next meaning f table B ks cs) ++ drop (length ks + length cs) old in
        let ls : length (setup_says (asked_first table B ks)) ≡ length ks = length_setup_says (record { table = table; values = B.values }) (map F ks) ∙ length-map ks F in
        let es : paired_setup ks answers ≡ asked_first table B ks = ap (paired_setup ks) r.answers_are ∙ paired_setup_says (record { table = table; values = B.values }) F (λ k. refl) ks tail in
        let eh : paired cs (drop (length ks) answers) ≡ asked_next meaning f table B ks cs =
        ap (λ xs. paired cs (drop (length ks) xs)) r.answers_are ∙ ap (paired cs) (drop_at (setup_says (asked_first table B ks)) tail (length ks) ls)
        ∙ paired_says meaning (first_world table B ks) G (λ k. refl) cs (drop (length ks + length cs) old) in
        subst (λ ss. Lawful meaning f n m ks cs sizes b ss (paired cs (drop (length ks) answers))) (sym es)
        (subst (λ h. Lawful meaning f n m ks cs sizes b (asked_first table B ks) h) (sym eh)
        (record {
          kept = law_kept b lv lm f ks cs;
          delay = λ few f' c e tf tf'. let l = other_long b c e lv lm in law_delay b c lv lm l.0 l.1 e f f' ks cs few tf tf';
        }))
