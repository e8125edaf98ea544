-- What the find call promises: the model's reply, for a roster held demand 3 in named parts, and how much was written; and how that follows from what
-- the core says and the filled diary.
use Rattle.std.specs.Prelude.{ℕ, ◌≤◌, ◌<◌, ◌≡◌, refl, Bool, true, not, cond, ◌||◌, List, length, replicate, T, ltb, Result}
use Rattle.std.specs.declared.result.Result.TheVariants.{Ok, Err}
use Rattle.std.proofs.Common.{arith, ◌∙◌, subst, nltb→le}
use Rattle.std.proofs.Math.Path.{sym, ap}
use Rattle.std.proofs.Math.Bool.{false}
use Rattle.std.proofs.lemmas.List.{length-map}
use Rattle.model.specs.Limits.{plan_size, diary_size, left_size}
use Rattle.model.specs.Reading as reading
use Rattle.model.specs.Reading.{Reading, accepted}
use Rattle.model.specs.Roster.{Roster}
use Rattle.model.specs.RosterFile.{read_roster}
use Rattle.model.specs.Edges.{instance_of}
use Rattle.model.specs.Instance.{Instance}
use Rattle.model.specs.Plans.{Plan}
use Rattle.model.specs.PlanFile.{read_plan}
use Rattle.model.specs.Reduction.{steps_of}
use Rattle.model.specs.Finder as F
use Rattle.model.specs.Finder.{Record, record_of, diary_of, finder_of}
use Rattle.model_desk.specs.Desk.{Call, finds, find, refused, refusal, found_on, found_bytes, lent_short, state_refusal, answer_on, lent_on, found_answer}
use Rattle.model_desk.specs.Desk.{found_written, onto}
use Rattle.theory_verdict.specs.Rival.{rival_of}
use Rattle.theory_finder.specs.Choices.{chosen}
use Rattle.theory_reduction.specs.Course.{steps_few}
use Rattle.diary.specs.declared.Step.{Step}
use Rattle.diary.specs.LentSteps.{record_in, records_in, steps_in}
use Rattle.diary_records.specs.FilledDiary.{filled_diary, filled_none}
use Rattle.answers.specs.declared.Found.{Found}
use Rattle.answers.specs.declared.Refusal.{Refusal}
use Rattle.answers.specs.FinderCases.{finding_shown, found_shown}
use Rattle.finder.specs.Promise as promise
use Rattle.finder.specs.Promise.{Promise, written_is, shown_is, steps_are}
use Rattle.finder.proofs.Promise.{promised}
use Rattle.finder_candidate.specs.FoundBuffers.{left_after, plan_after, answer_for}
use Rattle.diary.specs.FlatDiary.{flat_size}
use Rattle.desk_find.specs.declared.Lengths.{Lengths}
use Rattle.desk_find.specs.declared.Outcome.{Outcome}
use Rattle.desk_find.specs.Lengths.{lengths_on, lengths_held}
use Rattle.desk_find.specs.Outcomes as finds
use Rattle.desk_find.specs.Outcomes.{FindsFor, refused_lengths, Works, short, OutcomeFor, Outcomes, out_settled}
use Rattle.desk_files.specs.declared.Files.{Files}
use Rattle.desk_find.specs.declared.Searched.{Searched}
use Rattle.instance.specs.declared.Instance as arrays
use Rattle.instance.specs.Decoded.{shown_by}
use Rattle.model_desk.specs.HeldFiles.{held_plan, held, beside}
use Rattle.desk_loaded.specs.Held.{state_number}
use Rattle.desk_loaded.specs.RosterBytes.{ArraysOf}
use Rattle.desk_files.specs.Held.{roster_bytes, plan_bytes, proposal_bytes, held_of, beside_number, of_roster}
use Rattle.desk_files.specs.Replies.{Replied}
use Rattle.desk_files.specs.State.{states, by_state, pass_answer, pass_lent, desk_alike, roster_held_law}

-- what the core of a find says
pub record Done (d : Files) (room : ℕ) (l p v : List ℕ) (c : Searched) (l' p' v' : List ℕ) : Type 0 where
  pub same : c.files ≡ d
  pub outcome : Outcomes (roster_bytes d) room l p v c.outcome l' p' v'

-- the roster held is accepted, and the buffers have their sizes
abbrev pub Settled : Files → (room : ℕ) (l p v : List ℕ) → Type 0
Settled d room l p v = ((R : Roster) × (read_roster (roster_bytes d) ≡ accepted R)) × (short room l p v ≡ false)

pub done_settled : (d : Files) (room : ℕ) (l p v : List ℕ) → Settled d room l p v → {roster : List ℕ} → roster ≡ roster_bytes d → {g : arrays.Instance}
    → ArraysOf roster g → (c : Searched) (l' p' v' : List ℕ) → c.files ≡ d → Works (shown_by g) l p v c.outcome l' p' v' → Done d room l p v c l' p' v'
done_settled d room l p v ((R, a), e) {roster} i {g} A c l' p' v' same w = record {
  same = same;
  outcome = out_settled room l p v e R a (subst (λ bs. ArraysOf bs g) i A) c.outcome l' p' v' w;
}

-- on the bytes held
pub done_on : {d : Files} {room : ℕ} {l p v : List ℕ} {c : Searched} {l' p' v' : List ℕ} {roster : List ℕ} → roster ≡ roster_bytes d → c.files ≡ d
    → Outcomes roster room l p v c.outcome l' p' v' → Done d room l p v c l' p' v'
done_on {d} {room} {l} {p} {v} {c} {l'} {p'} {v'} e q o =
    record { same = q; outcome = subst (λ b. Outcomes b room l p v c.outcome l' p' v') e o }

-- demand 3 of an answer: what is found, and no refusal
abbrev pub PromiseOf : Roster → Result Found Refusal → (s : List Record) (l p v : List ℕ) (s' : List Record) (l' p' v' : List ℕ) → Type 0
PromiseOf R (Ok f) s l p v s' l' p' v' = Promise R f s l p v s' l' p' v'
PromiseOf R (Err n) s l p v s' l' p' v' = ⊥

-- the call's promise
pub record Finds (d : Files) (s : List Step) (l p v : List ℕ) (answer : Result Found Refusal) (n : Lengths) (s' : List Step) (l' p' v' : List ℕ) (d' : Files)
    : Type 0 where
  pub replied : Replied d (find (records_in s) l p v) (found_shown answer) (find (records_in s') l' p' v') d'
  -- demand 3, whole, for the roster held and buffers of their sizes
  pub demand3 : (R : Roster) → read_roster (roster_bytes d) ≡ accepted R → T (not (lent_short (find (records_in s) l p v)))
      → PromiseOf R answer (records_in s) l p v (records_in s') l' p' v'
  -- how many bytes of a plan or candidate and of a rival were written
  pub lengths : n ≡ lengths_on (held_of d') (found_shown answer)

-- ---- the records fit
fit : (room : ℕ) (l p v : List ℕ) (o : Outcome) (l' p' v' : List ℕ) (x : Reading Roster) (b : Bool) → short room l p v ≡ b
    → OutcomeFor x b l p v o l' p' v' → (o.steps ≤ diary_size) × (o.steps ≤ room)
fit room l p v o l' p' v' (reading.refused n) b q k = (omega (arith, k.refuses.steps), omega (arith, k.refuses.steps))
fit room l p v o l' p' v' (accepted R) true q k = (omega (arith, k.refuses.steps), omega (arith, k.refuses.steps))
fit room l p v o l' p' v' (accepted R) false q k =
    let G = instance_of R in
    let f = k.finds in
    let m : o.steps ≡ length (steps_of G) = k.steps ∙ ap promise.steps_in f.finds.wrote.answer ∙ steps_are (length (steps_of G)) (finder_of G (rival_of G)) in
    let h : diary_size ≤ room =
    nltb→le room diary_size (first (ltb room diary_size) (ltb (length l) left_size || (ltb (length p) plan_size || ltb (length v) plan_size)) q) in
    (omega (arith, steps_few G, f.few), omega (arith, steps_few G, f.few))
  where
    first : (a b : Bool) → a || b ≡ false → T (not a)
    first true b e = subst T e tt
    first false b e = tt

-- those of a find on a desk
pub within : (d : Files) (room : ℕ) (l p v : List ℕ) (c : Searched) (l' p' v' : List ℕ) → Done d room l p v c l' p' v'
    → (c.outcome.steps ≤ 1024) × (c.outcome.steps ≤ room)
within d room l p v c l' p' v' D = fit room l p v c.outcome l' p' v' (read_roster (roster_bytes d)) (short room l p v) refl D.outcome

-- ---- the reply
module _ (s : List Step) (l p v : List ℕ) where
  abbrev call : Call finds
  call = find (records_in s) l p v

  -- the test of the sizes is the model's
  pub short_is : short (length s) l p v ≡ lent_short call
  short_is = ap (λ n. ltb n diary_size || (ltb (length l) left_size || (ltb (length p) plan_size || ltb (length v) plan_size))) (sym (length-map s record_in))

  -- the state's refusal, by the roster's reading
  abbrev state_at : Reading Roster → Bool → ℕ
  state_at (reading.refused n) b = 13
  state_at (accepted R) b = cond b 15 0

  state_at_law : (x : Reading Roster) (plan : List ℕ) → state_at x (lent_short call) ≡ state_number (held x plan) false (lent_short call)
  state_at_law (reading.refused n) plan = refl
  state_at_law (accepted R) plan = go (read_plan (instance_of R) plan)
    where
      go : (y : Reading Plan) → cond (lent_short call) 15 0 ≡ state_number (held_plan R y) false (lent_short call)
      go (accepted M) = refl
      go (reading.refused n) = refl

  -- what is asked of the roster held
  module _ (R : Roster) (plan proposal : List ℕ) where
    abbrev G : Instance
    G = instance_of R

    answer_on_law : answer_on chosen (beside proposal (held (accepted R) plan)) call ≡ found_answer (length (steps_of G)) (finder_of G (rival_of G))
    answer_on_law = sym (of_roster (refusal 13) (found_on chosen) R (read_plan G plan) proposal)

    lent_on_law : lent_on chosen (beside proposal (held (accepted R) plan)) call ≡ found_written find G (finder_of G (rival_of G)) (records_in s) l p v
    lent_on_law = sym (of_roster call (λ r. found_bytes chosen find r (records_in s) l p v) R (read_plan G plan) proposal)

  module _ (d : Files) (ans : Result Found Refusal) (d' : Files) (same : d' ≡ d) (flat : List ℕ) (s' : List Step) (l' p' v' : List ℕ) where
    state_here : (x : Reading Roster) → read_roster (roster_bytes d) ≡ x → (b : Bool) → short (length s) l p v ≡ b
        → state_at x b ≡ state_number (held_of d) false (lent_short call)
    unfolding held_of
    state_here x e b q =
        ap (state_at x) (sym q ∙ short_is) ∙ state_at_law x (plan_bytes d) ∙ ap (λ y. state_number (held y (plan_bytes d)) false (lent_short call)) (sym e)
        ∙ beside_number (proposal_bytes d) (held (read_roster (roster_bytes d)) (plan_bytes d)) false (lent_short call)

    -- a refusal by 13 or 15
    refused_reply : (n : ℕ) → 0 < n → n ≡ state_number (held_of d) false (lent_short call) → (o : Outcome) → o.answer ≡ ans
        → finds.Kept n l p v o l' p' v' → s' ≡ s
        → Replied d call (found_shown ans) (find (records_in s') l' p' v') d'
    refused_reply n h e o a k q =
        subst (λ z. Replied d call (found_shown ans) (find (records_in s') l' p' v') z) (sym same)
        (subst (λ c. Replied d call (found_shown ans) c d) (λ i. find (records_in (sym q i)) (sym k.left i) (sym k.plan i) (sym k.rival i))
        (by_state d call tt tt e h (ap found_shown (sym a) ∙ k.refuses.answer)))

    -- what was found
    module _ (R : Roster) (e : read_roster (roster_bytes d) ≡ accepted R) {r : Found} (is : ans ≡ Ok r)
        (f : FindsFor R (replicate flat_size 0) l p v r flat l' p' v')
        (q : records_in s' ≡ onto (diary_of (instance_of R)) (records_in s)) where
      abbrev x : F.Found
      x = finder_of (instance_of R) (rival_of (instance_of R))

      answer_here : found_shown ans ≡ found_answer (length (steps_of (instance_of R))) x
      answer_here = ap found_shown is ∙ ap finding_shown f.finds.wrote.answer ∙ shown_is (length (steps_of (instance_of R))) x

      lent_here : find (records_in s') l' p' v' ≡ found_written find (instance_of R) x (records_in s) l p v
      lent_here =
          (λ i. find (q i) (f.finds.wrote.left i) (f.finds.wrote.plan i) (f.finds.wrote.rival i))
          ∙ sym (written_is find (instance_of R) x (records_in s) l p v)

      found_reply : 0 ≡ state_refusal (held_of d) call → Replied d call (found_shown ans) (find (records_in s') l' p' v') d'
      found_reply z = record {
        answer = answer_here ∙ sym (ap (λ h. answer_on chosen h call) (roster_held_law d R e) ∙ answer_on_law R (plan_bytes d) (proposal_bytes d))
            ∙ pass_answer (held_of d) call z;
        lent = lent_here ∙ sym (ap (λ h. lent_on chosen h call) (roster_held_law d R e) ∙ lent_on_law R (plan_bytes d) (proposal_bytes d)) ∙ pass_lent (held_of d) call z;
        desk = ap held_of same ∙ desk_alike (held_of d) call refl;
        stored = same;
      }

      promised_here : PromiseOf R ans (records_in s) l p v (records_in s') l' p' v'
      promised_here =
          subst (λ a. PromiseOf R a (records_in s) l p v (records_in s') l' p' v') (sym is)
          (subst (λ a. Promise R a (records_in s) l p v (records_in s') l' p' v') (sym f.finds.wrote.answer)
          (subst (λ z. Promise R (answer_for (length (steps_of (instance_of R))) x) (records_in s) l p v z l' p' v') (sym q)
          (subst
          (λ z. Promise R (answer_for (length (steps_of (instance_of R))) x) (records_in s) l p v (onto (diary_of (instance_of R)) (records_in s)) z p' v')
          (sym f.finds.wrote.left)
          (subst
          (λ z. Promise R (answer_for (length (steps_of (instance_of R))) x) (records_in s) l p v (onto (diary_of (instance_of R)) (records_in s))
          (left_after (instance_of R) x l) z v')
          (sym f.finds.wrote.plan)
          (subst
          (λ z. Promise R (answer_for (length (steps_of (instance_of R))) x) (records_in s) l p v (onto (diary_of (instance_of R)) (records_in s))
          (left_after (instance_of R) x l) (plan_after (instance_of R) x p) z)
          (sym f.finds.wrote.rival)
          (promised R f.fitting (records_in s) l p v))))))

    -- the filled diary is the model's
    diary_here : (R : Roster) (steps : ℕ) {r : Found} → FindsFor R (replicate flat_size 0) l p v r flat l' p' v' → steps ≡ promise.steps_in r
        → s' ≡ onto (steps_in steps flat) s → records_in s' ≡ onto (diary_of (instance_of R)) (records_in s)
    unfolding diary_of
    diary_here R steps f n w = filled_diary (diary_of (instance_of R)) steps flat (replicate flat_size 0) s s' f.finds.diary
        (n ∙ ap promise.steps_in f.finds.wrote.answer
        ∙ steps_are (length (steps_of (instance_of R))) (finder_of (instance_of R) (rival_of (instance_of R)))
        ∙ sym (length-map (steps_of (instance_of R)) (record_of (instance_of R)))) w

    -- by the roster's reading and the buffers' sizes
    abbrev Both : Lengths → Type 0
    Both n = Replied d call (found_shown ans) (find (records_in s') l' p' v') d'
        × ((R : Roster) → read_roster (roster_bytes d) ≡ accepted R → T (not (lent_short call))
        → PromiseOf R ans (records_in s) l p v (records_in s') l' p' v')
        × (n ≡ lengths_on (held_of d') (found_shown ans))

    by_outcome : (x : Reading Roster) → read_roster (roster_bytes d) ≡ x → (b : Bool) → short (length s) l p v ≡ b → (steps : ℕ) (n : Lengths)
        → OutcomeFor x b l p v (record { answer = ans; lengths = n; flat = flat; steps = steps }) l' p' v' → s' ≡ onto (steps_in steps flat) s → Both n
    by_outcome (reading.refused n) e b q steps m k w = (
      refused_reply 13 (omega arith) (state_here (reading.refused n) e b q) (record { answer = ans; lengths = m; flat = flat; steps = steps }) refl k
          (filled_none steps flat s s' k.refuses.steps w),
      λ R a t. absurd (no_roster_law (sym e ∙ a)),
      refused_lengths (held_of d') 13 (record { answer = ans; lengths = m; flat = flat; steps = steps }) k.refuses,
    )
      where
        is_turned : Reading Roster → Bool
        is_turned (accepted R) = false
        is_turned (reading.refused n) = true

        no_roster_law : {n : ℕ} {R : Roster} → reading.refused n ≡ accepted R → ⊥
        no_roster_law z = subst (λ y. T (is_turned y)) z tt
    by_outcome (accepted R) e true q steps m k w = (
      refused_reply 15 (omega arith) (state_here (accepted R) e true q) (record { answer = ans; lengths = m; flat = flat; steps = steps }) refl k
          (filled_none steps flat s s' k.refuses.steps w),
      λ R a t. absurd (subst (λ b. T (not b)) (sym short_is ∙ q) t),
      refused_lengths (held_of d') 15 (record { answer = ans; lengths = m; flat = flat; steps = steps }) k.refuses,
    )
    by_outcome (accepted R) e false q steps m k w =
        let f = k.finds in
        let D = diary_here R steps f k.steps w in (
          found_reply R e k.answer f D (state_here (accepted R) e false q ∙ states (held_of d) call tt tt),
          λ R' a t. subst (λ Q. PromiseOf Q ans (records_in s) l p v (records_in s') l' p' v') (one (sym e ∙ a)) (promised_here R e k.answer f D),
          k.lengths ∙ lengths_held d R e (finding_shown k.found) ∙ ap (λ a. lengths_on (held_of d) (found_shown a)) (sym k.answer)
              ∙ ap (λ z. lengths_on (held_of z) (found_shown ans)) (sym same),
        )
      where
        roster_of : Roster → Reading Roster → Roster
        roster_of R (accepted Q) = Q
        roster_of R (reading.refused n) = R

        one : {Q R : Roster} → accepted Q ≡ accepted R → Q ≡ R
        one {Q} z = ap (roster_of Q) z

-- what a find promises follows from its core and the filled diary
pub found : (d : Files) (s : List Step) (l p v : List ℕ) (c : Searched) (s' : List Step) (l' p' v' : List ℕ) → Done d (length s) l p v c l' p' v'
    → s' ≡ onto (steps_in c.outcome.steps c.outcome.flat) s
    → Finds d s l p v c.outcome.answer c.outcome.lengths s' l' p' v' c.files
found d s l p v c s' l' p' v' D w =
    let (a, b, k) =
    by_outcome s l p v d c.outcome.answer c.files D.same c.outcome.flat s' l' p' v' (read_roster (roster_bytes d)) refl
    (short (length s) l p v) refl c.outcome.steps c.outcome.lengths
    D.outcome w in
    record { replied = a; demand3 = b; lengths = k }
