-- What the call for days promises: the model's reply, and what holds of the days that it writes.
use Rattle.std.specs.Prelude.{ℕ, ◌≤◌, ◌<◌, ◌≡◌, refl, Bool, true, List, map, ◌++◌, length, take, drop, get_or, ltb, eqb, Result}
use Rattle.std.proofs.Common.{le_refl, arith, sym, ap, ap₂, ◌∙◌, subst, get_or-take, length-take-le}
use Rattle.std.proofs.Math.Option.{some}
use Rattle.lists.specs.Test.{given}
use Rattle.lists.specs.Sum.{◌∈◌, range, ∈_range, count, count_cong}
use Rattle.lists.specs.Ranges.{map_at}
use Rattle.lists.specs.Keep.{∈_keep, get_d_∈}
use Rattle.model.specs.Limits.{node_limit, day_size, last_day}
use Rattle.model.specs.Roster.{Roster}
use Rattle.model.specs.Instance.{Side, surveyors, stands, deg}
use Rattle.model.specs.Edges.{instance_of}
use Rattle.model.specs.Plans.{Plan, on}
use Rattle.model.specs.PlanFile.{edges_in}
use Rattle.model.specs.Days.{Sheet}
use Rattle.model_desk.specs.Desk.{plan_held, spread, refusal, said, wrote, onto}
use Rattle.theory_instance.specs.Within.{within_matching}
use Rattle.theory_files.specs.Chosen.{plan_within}
use Rattle.theory_days.specs.Sheets.{spread_by, spread_of, days_many, entries_at}
use Rattle.theory_days.proofs.Sheets.{sheet_holds}
use Rattle.arrays.specs.ArrayInstance.{at, flag}
use Rattle.plan_lookup.specs.PlanEdges.{Listed}
use Rattle.std.specs.declared.result.Result.TheVariants.{Ok, Err}
use Rattle.answers.specs.declared.Refusal.{Refusal}
use Rattle.answers.specs.RefusalCases.{number_of}
use Rattle.answers.specs.WrittenCases.{written_shown}
use Rattle.instance.specs.Decoded.{shown_by}
use Rattle.desk_loaded.specs.declared.OnDesk.{OnDesk}
use Rattle.desk_loaded.specs.Held.{state_number}
use Rattle.desk_loaded.specs.OnDesk.{LoadedFrom, NotLoaded}
use Rattle.desk_files.specs.declared.Files.{Files}
use Rattle.model_desk.specs.HeldFiles.{held_proposal}
use Rattle.desk_files.specs.Held.{roster_bytes, plan_bytes, held_of, of_plan}
use Rattle.desk_files.specs.Replies.{Replied}
use Rattle.desk_files.specs.State.{refused_within, state_is, passes, other, arrays_are, its_plan_held, held_within}

-- the call for days on desk d with the buffer v: the answer, the buffer and the desk then
pub record Spreads (d : Files) (v : List ℕ) (answer : Result ℕ Refusal) (v' : List ℕ) (d' : Files) : Type 0 where
  pub replied : Replied d (spread v) (written_shown answer) (spread v') d'
  -- "No surveyor and no stand has two entries on one day", and all else that holds of the days of the plan M held
  pub sheet : (R : Roster) (M : Plan) → plan_held (held_of d) ≡ some (R, M) → Sheet (instance_of R) M (spread_of (instance_of R) M)

pub spreads : (d : Files) {short : Bool} {l : OnDesk} → LoadedFrom (roster_bytes d) (plan_bytes d) true short 0 l
    → (v : List ℕ) {answer : Result ℕ Refusal} {v' : List ℕ} {d' : Files} → Replied d (spread v) (written_shown answer) (spread v') d' → Spreads d v answer v' d'
spreads d F v A = record { replied = A; sheet = λ R M h. given (held_within d F R M h) (λ (ok, m). sheet_holds R ok M m) }

pub spreads_not : (d : Files) {needs short : Bool} {e : Refusal} → NotLoaded (roster_bytes d) (plan_bytes d) needs short e
    → (v : List ℕ) {v' : List ℕ} {d' : Files} → Replied d (spread v) (written_shown (Err e)) (spread v') d' → Spreads d v (Err e) v' d'
spreads_not d F v A = record { replied = A; sheet = λ R M h. given (refused_within d F R M h) (λ (ok, m). sheet_holds R ok M m) }

-- entries of a node, counted in a list of edges by their places
at_node_law : (K : Side) (p : ℕ → Bool) (edges : List ℕ) (n : ℕ) → n ≡ length (edges_in K.m p) → take n edges ≡ edges_in K.m p
    → (v : ℕ) → count (λ j. eqb (K.end (at edges j)) v) n ≡ deg K p v
at_node_law K p edges n e front v =
    count_cong (λ j. eqb (K.end (at edges j)) v) (λ j. eqb (at (map K.end (edges_in K.m p)) j) v) n (λ j h. ap (λ z. eqb z v)
    (ap K.end (sym (get_or-take n edges j 0 h) ∙ ap (λ xs. at xs j) front) ∙ sym (map_at K.end (edges_in K.m p) j 0 0 (omega arith))))
    ∙ ap (count (λ j. eqb (at (map K.end (edges_in K.m p)) j) v)) e
    ∙ entries_at K p v

-- the list of a plan's edges, as the call has it
module _ (d : Files) {short : Bool} {l : OnDesk} (F : LoadedFrom (roster_bytes d) (plan_bytes d) true short 0 l)
    (full : length l.plan.edges ≡ 64) where
  listed : Listed l.g.m l.plan.chosen l.plan.n l.plan.edges
  listed = given (its_plan_held d F (le_refl 0)) (λ (R, M, e, s, P, w). P.listed)

  count_is : l.plan.n ≡ length (edges_in l.g.m (flag l.plan.chosen))
  count_is = omega (arith, length-take-le l.plan.n l.plan.edges listed.there, ap length listed.are)

  -- no node has more entries than there are days
  few_at : (v : ℕ) → (count (λ j. eqb (at l.g.sv (at l.plan.edges j)) v) l.plan.n ≤ last_day)
      × (count (λ j. eqb (at l.g.st (at l.plan.edges j)) v) l.plan.n ≤ last_day)
  few_at v = given (its_plan_held d F (le_refl 0)) (λ (R, M, e, s, P, w).
      let G = shown_by l.g in
      let A = arrays_are d F (le_refl 0) in
      let f : flag l.plan.chosen ≡ on M = (λ i k. P.flags k i) in
      let match = within_matching G (on M) A.lawful (plan_within G P.within) in (
        omega (
          arith,
          at_node_law (surveyors G) (flag l.plan.chosen) l.plan.edges l.plan.n count_is listed.are v,
          ap (λ p. deg
              (surveyors G) p v) f,
          match.at_s v,
          (A.quotas v).0,
        ),
        omega (
          arith,
          at_node_law (stands G) (flag l.plan.chosen) l.plan.edges l.plan.n count_is listed.are v,
          ap (λ p. deg (stands G) p v) f,
          match.at_t v,
          (A.quotas v).1,
        ),
      ))

  -- what the spreading asks for
  pub asked : (l.plan.n ≤ 64) × (l.plan.n ≤ length l.plan.edges) × ((k : ℕ) → k < l.plan.n → at l.plan.edges k < 1024)
      × ((k : ℕ) → k < l.plan.n → (at l.g.sv (at l.plan.edges k) < node_limit) × (at l.g.st (at l.plan.edges k) < node_limit))
      × ((v : ℕ) → (count (λ j. eqb (at l.g.sv (at l.plan.edges j)) v) l.plan.n ≤ last_day)
      × (count (λ j. eqb (at l.g.st (at l.plan.edges j)) v) l.plan.n ≤ last_day))
  asked = (
    listed.few,
    omega (arith, listed.few),
    (λ k h.
        let m = subst (λ xs. get_or xs k 0 ∈ edges_in l.g.m (flag l.plan.chosen)) (sym listed.are)
        (get_d_∈ (edges_in l.g.m (flag l.plan.chosen)) k 0 (omega (arith, count_is))) in
        let b = (∈_range l.g.m 0 (∈_keep (flag l.plan.chosen) (range 0 l.g.m) m).0).1 in
        omega (arith, b, get_or-take l.plan.n l.plan.edges k 0 h, (arrays_are d F (le_refl 0)).edges)),
    (λ k h. ((arrays_are d F (le_refl 0)).low_sv (at l.plan.edges k), (arrays_are d F (le_refl 0)).low_st (at l.plan.edges k))),
    few_at,
  )

  -- the answer and the buffer
  pub spread_reply : (out : List ℕ) {after : List ℕ} → short ≡ ltb (length out) day_size
      → after ≡ spread_by (at l.g.sv) (at l.g.st) (take l.plan.n l.plan.edges) ++ drop l.plan.n out
      → Replied d (spread out) (said (wrote l.plan.n)) (spread after) d
  spread_reply out s q = given (its_plan_held d F (le_refl 0)) (λ (R, M, e, g, P, w).
      let G = shown_by l.g in
      let f : flag l.plan.chosen ≡ on M = (λ i k. P.flags k i) in
      let days : spread_by (at l.g.sv) (at l.g.st) (take l.plan.n l.plan.edges) ≡ spread_of G M = ap (spread_by (at l.g.sv) (at l.g.st))
      (listed.are ∙ ap (edges_in l.g.m) f) in
      let many : l.plan.n ≡ length (spread_of G M) = count_is ∙ ap (λ p. length (edges_in l.g.m p)) f ∙ sym (days_many G M) in
      passes d (spread out) tt tt (state_is d F ∙ ap (state_number (held_of d) true) s) (le_refl 0) (held_proposal R M (other d R)) e
      (ap (λ k. said (wrote k)) (many ∙ ap (λ G. length (spread_of G M)) g)
      ∙ of_plan (refusal 14) (λ r M. said (wrote (length (spread_of (instance_of r) M)))) R M (other d R))
      (ap spread (q ∙ ap₂ (λ x k. x ++ drop k out) days many ∙ ap (λ G. onto (spread_of G M) out) g)
      ∙ of_plan (spread out) (λ r M. spread (onto (spread_of (instance_of r) M) out)) R M (other d R))
      refl refl)
