-- The law.
use Rattle.std.proofs.Common.{◌≡◌, ℕ, ◌+◌, ◌*◌, ◌<◌, ◌≤◌, Bool, not, ◌&&◌, ◌⊎◌, List, [], ◌∷◌, ◌++◌, map, get_or, take, Some, None, Option, sym, refl, ap, ◌∙◌, subst, ap₂, inl, inr, arith, Ok}
use Rattle.std.proofs.lemmas.Bool.{cases_lt}
use Rattle.std.proofs.lemmas.List.{take-map}
use Rattle.refusal.specs.declared.Refusal.{Refusal}
use Rattle.coin.specs.Tosses.{toss_of}
use Rattle.closing.specs.Counting.{means, quorum_of, weak_quorum_of}
use Rattle.board.specs.declared.states.Table.{Table}
use Rattle.board.specs.declared.states.Decision.TheVariants.{Undecided}
use Rattle.board.specs.Tables.{with_node, bit_at, decided_at, final_at}
use Rattle.board.specs.Setups.{propose_refusal, if_accepted}
use Rattle.agreement.specs.Setups.{marked, mark_faulty_refusal}
use Rattle.refusal.specs.Refusals.{answered}
use Rattle.law.specs.declared.calls.SetupCall.{SetupCall}
use Rattle.law.specs.declared.calls.SetupCall.TheVariants.{MarkFaulty, Propose}
use Rattle.law.specs.declared.calls.Told.TheVariants.{Done, Decision}
use Rattle.law.specs.Runs.{Tosses, SetupMove, Prepared, SetupAsked, setup_refusal, setup_effect, setup_after, setup_run, setup_history, World, Move, Ask, run, history, outcome_history}
use Rattle.law.specs.Law.{Sizes, Boards, start, open_world, setup_asked, asked, is_faulty, began, FewFaulty, second_step, began_count, OpenAfter, Kept, Plain, with_coin, TossesAlike, Delayed, Law}
use Rattle.law.proofs.Tallies.{tally, counted_nodes}
use Rattle.law.proofs.Quorums.{Quorum}
use Rattle.board.proofs.Boards.{written_at}
use Rattle.law.proofs.Stages.{Stage}
use Rattle.law.proofs.Tossing.{Alike}
use Rattle.law.proofs.Worlds.{Fits, fits_run, item_of}
use Rattle.law.proofs.Openings.{fair, opened_fits, opened_stage, value_start, faulty_tally}
use Rattle.law.proofs.Histories.{step_in, later, steps_behind, says_open}
use Rattle.law.proofs.Keeping.{found, agreement, unchanging, lasting, majority, unanimity}
use Rattle.law.proofs.Paces.{Pace}
use Rattle.law.proofs.Twins.{with_tosses, Open, open_before, tossed_alike}

module _ {R : Type 0} where
  -- a setup's refusals, and so its history and its table, do not depend on what the values board holds
  same_refusal : (p p' : Prepared R) → p.table ≡ p'.table → (fits : Bool) (k : SetupCall R) → setup_refusal p fits k ≡ setup_refusal p' fits k
  same_refusal p p' e fits (MarkFaulty i) = ap (λ (t : Table). mark_faulty_refusal t i) e
  same_refusal p p' e fits (Propose i c x) = ap (λ (t : Table). propose_refusal t fits i c) e

  effect_table : (p p' : Prepared R) → p.table ≡ p'.table → (k : SetupCall R) → (setup_effect p k).table ≡ (setup_effect p' k).table
  effect_table p p' e (MarkFaulty i) = ap (λ (t : Table). with_node t i marked) e
  effect_table p p' e (Propose i c x) = e

  after_table : (p p' : Prepared R) → p.table ≡ p'.table → (v : SetupMove R) → (setup_after p v).table ≡ (setup_after p' v).table
  after_table p p' e v =
      ap (λ o. (if_accepted o (setup_effect p v.call) p).table) (same_refusal p p' e v.fits v.call) ∙ go (setup_refusal p' v.fits v.call)
    where
      go : (o : Option Refusal) → (if_accepted o (setup_effect p v.call) p).table ≡ (if_accepted o (setup_effect p' v.call) p').table
      go None = effect_table p p' e v.call
      go (Some r) = e

  same_history : (ks : List (SetupMove R)) (p p' : Prepared R) → p.table ≡ p'.table → setup_history p ks ≡ setup_history p' ks
  unfolding setup_history
  same_history [] p p' e = refl
  same_history (v ∷ ks) p p' e =
      ap₂ ◌∷◌ (ap (λ o. record { call = v.call; answer = answered o Done }) (same_refusal p p' e v.fits v.call))
      (same_history ks (setup_after p v) (setup_after p' v) (after_table p p' e v))

  same_table : (ks : List (SetupMove R)) (p p' : Prepared R) → p.table ≡ p'.table → (setup_run p ks).table ≡ (setup_run p' ks).table
  unfolding setup_run
  same_table [] p p' e = e
  same_table (v ∷ ks) p p' e = same_table ks (setup_after p v) (setup_after p' v) (after_table p p' e v)

module _ {R : Type 0} (meaning : R → ℕ) (n m : ℕ) (sizes : Sizes n m) where
  module _ (b : Boards R n m) (ks : List (SetupMove R)) (few : FewFaulty (setup_asked n m sizes b ks) n) where
    abbrev calls_of : List (SetupAsked R)
    calls_of = setup_asked n m sizes b ks

    quorums : Quorum n (is_faulty calls_of) (quorum_of n) (weak_quorum_of n)
    quorums = fair n (is_faulty calls_of) (omega (arith, few, faulty_tally n m sizes b ks))

    keeps : (moves : List (Move R)) (asks : List Ask) → Kept meaning n m calls_of (asked meaning n m sizes b (record { setup = ks; moves = moves; asks = asks }))
    keeps moves asks =
        let w = open_world n m sizes b ks in
        let f = is_faulty calls_of in
        let s = began calls_of in
        let g = opened_fits n m sizes b ks in
        let st = opened_stage n m sizes b meaning ks in
        record {
          agreement = agreement meaning n m f quorums s w g st moves asks;
          unchanging = unchanging meaning n m f quorums s w g st moves asks;
          lasting = lasting meaning n m f quorums s w g st moves asks;
          majority = λ i c p r h.
              let k = majority meaning n m f quorums s w g st moves asks i c p r h in
              let x = counted_nodes (λ i. not (f i)) n in
              let y = counted_nodes (λ i. not (f i) && means meaning (meaning r) (s i c)) n in
              subst (λ u. u < 2 * began_count meaning calls_of n c (meaning r)) (sym x) (subst (λ u. tally n (λ i. not (f i)) < 2 * u) (sym y) k);
          unanimity = λ c all i p a past h r.
              unanimity meaning n m f quorums s w g st moves asks refl c (λ i l t lc. value_start n m sizes b ks i c l lc)
              (λ i j li si lj sj. all i j (record { node = li; honest = si }) (record { node = lj; honest = sj })) i p a past h r;
        }

  module _ (b b' : Boards R n m) (ks : List (SetupMove R)) (few : FewFaulty (setup_asked n m sizes b ks) n) where
    abbrev faulty : ℕ → Bool
    faulty = is_faulty (setup_asked n m sizes b ks)

    abbrev began_with : ℕ → ℕ → Option R
    began_with = began (setup_asked n m sizes b ks)

    histories : setup_asked n m sizes b' ks ≡ setup_asked n m sizes b ks
    histories = same_history ks (start n m sizes b') (start n m sizes b) refl

    tables : (setup_run (start n m sizes b) ks).table ≡ (setup_run (start n m sizes b') ks).table
    tables = same_table ks (start n m sizes b) (start n m sizes b') refl

    other_fits : Fits n m faulty (open_world n m sizes b' ks)
    other_fits = subst (λ ss. Fits n m (is_faulty ss) (open_world n m sizes b' ks)) histories (opened_fits n m sizes b' ks)

    other_stage : (c : ℕ) → c < m → Stage meaning n faulty (λ i. began_with i c) (item_of (open_world n m sizes b' ks) c)
    other_stage c lc = subst (λ ss. Stage meaning n (is_faulty ss) (λ i. began ss i c) (item_of (open_world n m sizes b' ks) c)) histories (opened_stage n m sizes b' meaning ks c lc)

    opened_alike : (c : ℕ) → c < m → Alike meaning n faulty (item_of (open_world n m sizes b ks) c) (item_of (open_world n m sizes b' ks) c)
    opened_alike c lc = record {
      phase = refl;
      round = refl;
      value = λ i l s. value_start n m sizes b ks i c l lc ∙ ap (λ ss. began ss i c) (sym histories) ∙ sym (value_start n m sizes b' ks i c l lc);
      bit = λ i l s. ap (λ (t : Table). bit_at t i c) tables;
      decided = λ i l s. ap (λ (t : Table). decided_at t i c) tables;
    }

    opened_mark : (b : Boards R n m) (k : ℕ) → k < n * n * m → get_or (open_world n m sizes b ks).marks k 0 ≡ 0
    opened_mark b k l = let h = b.long_marks in written_at (n * n * m) (λ _. 0) b.marks k 0 l (omega arith)

    opened_pace : Pace n m (open_world n m sizes b ks) (open_world n m sizes b' ks)
    opened_pace = record {
      phase = refl;
      round = refl;
      marks = λ k l. opened_mark b k l ∙ sym (opened_mark b' k l);
      sent = λ k l e. absurd (omega (arith, opened_mark b k l));
      finals = λ i j li lj. ap (λ (t : Table). final_at t i j) tables;
    }

    module _ (ps : List (Plain R)) (qs : List Ask) where
      -- a run that leaves item c undecided at a place, with its step
      record Waits (w : World R) (f : Tosses) (c k p : ℕ) : Type 0 where
        item : c < m
        some : 0 < n
        late : k < step_in (run meaning w (take p (map (with_tosses f) ps)))
        waits : (pn : 0 < n) (Q : Quorum n faulty (quorum_of n) (weak_quorum_of n)) (lc : c < m) → Open meaning n m faulty pn Q c lc (run meaning w (take p (map (with_tosses f) ps)))

      waiting : (w : World R) (g : Fits n m faulty w) (st : (c : ℕ) → c < m → Stage meaning n faulty (λ i. began_with i c) (item_of w c)) → step_in w ≡ 1 →
          (f : Tosses) (c k : ℕ) (o : OpenAfter (history meaning w (map (with_tosses f) ps)
          ++ outcome_history (run meaning w (map (with_tosses f) ps)).state.table (run meaning w (map (with_tosses f) ps)).values qs) c k) → Waits w f c k o.1
      waiting w g st first f c k o =
          let x = found meaning n m faulty (quorums b ks few) began_with w g st (map (with_tosses f) ps) qs o.1 o.0 c (Ok (Decision Undecided)) o.3 refl in
          let s = steps_behind meaning n m faulty w (map (with_tosses f) ps) qs o.1 g in
          let l = o.2 in
          let node = x.node in
          record {
            item = x.item;
            some = omega arith;
            late = omega arith;
            waits = λ pn Q lc. record { at = o.0; node = x.node; honest = x.honest; undecided = says_open (run meaning w (take o.1 (map (with_tosses f) ps))) o.0 c x.said };
          }

      -- what waits at a place waits at an earlier one
      waits_before : (w : World R) (g : Fits n m faulty w) (f : Tosses) (c : ℕ) (pn : 0 < n) (Q : Quorum n faulty (quorum_of n) (weak_quorum_of n)) (lc : c < m) (p q : ℕ) → p ≤ q →
          Open meaning n m faulty pn Q c lc (run meaning w (take q (map (with_tosses f) ps))) → Open meaning n m faulty pn Q c lc (run meaning w (map (with_tosses f) (take p ps)))
      waits_before w g f c pn Q lc p q l o =
          let r = later meaning w (map (with_tosses f) ps) p q l in
          let e = take-map (with_tosses f) p ps in
          subst (λ us. Open meaning n m faulty pn Q c lc (run meaning w us)) e
          (open_before meaning n m faulty pn Q c lc (run meaning w (take p (map (with_tosses f) ps))) r.0 (fits_run meaning n m faulty w (take p (map (with_tosses f) ps)) g)
          (subst (Open meaning n m faulty pn Q c lc) r.1 o))

      delayed : (f f' : Tosses) → TossesAlike (setup_asked n m sizes b ks) n f → TossesAlike (setup_asked n m sizes b ks) n f' →
          Delayed n (setup_asked n m sizes b ks) (asked meaning n m sizes b (with_coin f ks ps qs)) (asked meaning n m sizes b' (with_coin f' ks ps qs)) f f'
      delayed f f' tf tf' c r r1 r99 oa ob i j hi j1 jr =
          let wa = open_world n m sizes b ks in
          let wb = open_world n m sizes b' ks in
          let ga = opened_fits n m sizes b ks in
          let Q = quorums b ks few in
          let xa = waiting wa ga (opened_stage n m sizes b meaning ks) refl f c (second_step r) oa in
          let xb = waiting wb other_fits other_stage refl f' c (second_step r) ob in
          let lc = xa.item in
          let pn = xa.some in
          let at : (p : ℕ) → p ≤ oa.1 → p ≤ ob.1 →
          (3 * r + 4 < step_in (run meaning wa (map (with_tosses f) (take p ps)))) ⊎ (3 * r + 4 < step_in (run meaning wb (map (with_tosses f') (take p ps)))) → toss_of f i j c ≡ toss_of f' i j c =
          λ p la lb late.
          tossed_alike meaning n m faulty pn Q c lc f f'
          (λ i j k li si lj sj. tf i j k c (record { node = li; honest = si }) (record { node = lj; honest = sj }))
          (λ i j k li si lj sj. tf' i j k c (record { node = li; honest = si }) (record { node = lj; honest = sj }))
          (λ i. began_with i c) r (take p ps) wa wb ga other_fits opened_pace (opened_alike c lc) (opened_stage n m sizes b meaning ks c lc) (other_stage c lc) refl late
          (waits_before wa ga f c pn Q lc p oa.1 la (xa.waits pn Q lc)) (waits_before wb other_fits f' c pn Q lc p ob.1 lb (xb.waits pn Q lc))
          j j1 jr i hi.node hi.honest in
          elim (cases_lt oa.1 ob.1) [
            | inl l ↦ at oa.1 (omega arith) (omega arith) (inl (subst (λ us. 3 * r + 4 < step_in (run meaning wa us)) (take-map (with_tosses f) oa.1 ps) (omega (arith, xa.late))))
            | inr l ↦ at ob.1 l (omega arith) (inr (subst (λ us. 3 * r + 4 < step_in (run meaning wb us)) (take-map (with_tosses f') ob.1 ps) (omega (arith, xb.late))))
          ]

pub law : {R : Type 0} (meaning : R → ℕ) → Law meaning
law meaning = record {
  kept = λ n m sizes b x few. keeps meaning n m sizes b x.setup few x.moves x.asks;
  delay = λ n m sizes b b' ks ps qs f f' few tf tf'. delayed meaning n m sizes b b' ks few ps qs f f' tf tf';
}
