-- The finder on the roster held: 13 if there is none, then 15 if a buffer is below its size, then what the finder answers, with the
-- flat diary of its trace.
use Rattle.std.specs.Prelude.{ℕ, ◌≤◌, ◌<◌, ◌≡◌, refl, Bool, true, false, ◌||◌, List, length, get_or, replicate, T, ltb, Result}
use Rattle.std.specs.declared.result.Result.TheVariants.{Ok, Err}
use Rattle.std.proofs.Common.{arith, sym, ap, ◌∙◌, subst, nltb→le}
use Rattle.lists.specs.Test.{given, false_t}
use Rattle.model.specs.Limits.{entry_limit, plan_size, diary_size, left_size}
use Rattle.model.specs.Refusal.{group_of}
use Rattle.model.specs.Reading.{Reading, accepted, refused}
use Rattle.model.specs.Roster.{Roster, fits}
use Rattle.model.specs.RosterFile.{read_roster}
use Rattle.model.specs.Edges.{instance_of}
use Rattle.model.specs.Instance.{Instance}
use Rattle.model.specs.PlanFile.{read_plan}
use Rattle.model.specs.Reduction.{steps_of}
use Rattle.model.specs.Finder.{diary_of, finder_of}
use Rattle.model_desk.specs.Desk.{Held, refusal}
use Rattle.theory_verdict.specs.Rival.{rival_of}
use Rattle.instance.specs.declared.Instance as arrays
use Rattle.instance.specs.Decoded.{shown_by}
use Rattle.instance.specs.Loaded.{Loaded}
use Rattle.answers.specs.declared.Refusal.{Refusal}
use Rattle.answers.specs.RefusalCases.{number_of, number_some}
use Rattle.answers.specs.FinderCases.{finding_shown, found_shown}
use Rattle.answers.specs.declared.Found as code
use Rattle.diary.specs.FlatDiary.{flat_size, written}
use Rattle.diary_records.specs.TraceRecords.{flat_of, Readable, trace_flat, readable}
use Rattle.finder_candidate.specs.FoundBuffers.{Wrote}
use Rattle.finder_run.specs.declared.Outcome as traced
use Rattle.finder_run.specs.Finding.{Finds}
use Rattle.finder.specs.Promise.{steps_in, steps_are}
use Rattle.desk_loaded.specs.declared.OnDesk.{OnDesk}
use Rattle.model_desk.specs.HeldFiles.{held}
use Rattle.desk_loaded.specs.Held.{state_number, unneeded}
use Rattle.desk_loaded.specs.OnDesk.{LoadedAs, LoadedFrom, its_roster, its_length}
use Rattle.desk_loaded.specs.RosterBytes.{ArraysOf}
use Rattle.desk_find.specs.declared.Lengths.{Lengths}
use Rattle.desk_find.specs.declared.Outcome.{Outcome}
use Rattle.desk_find.specs.Lengths.{unwritten, lengths_of, lengths_on, lengths_in, lengths_told, none_refused}

-- ---- what is found, with the flat diary
pub record FindsIn (G : Instance) (d l p v : List ℕ) (r : code.Found) (d' l' p' v' : List ℕ) : Type 0 where
  pub wrote : Wrote G (finder_of G (rival_of G)) (length (steps_of G)) l p v r l' p' v'
  pub diary : d' ≡ written (diary_of G) d

-- of an accepted roster, which is within the limits
pub record FindsFor (R : Roster) (d l p v : List ℕ) (r : code.Found) (d' l' p' v' : List ℕ) : Type 0 where
  pub fitting : T (fits R)
  pub few : (instance_of R).m ≤ entry_limit
  pub finds : FindsIn (instance_of R) d l p v r d' l' p' v'

-- ---- the finder with a diary of its own
-- a refusal of that number, nothing written, and no record
pub record Refuses (n : ℕ) (o : Outcome) : Type 0 where
  pub answer : found_shown o.answer ≡ refusal n
  pub lengths : o.lengths ≡ unwritten
  pub steps : o.steps ≡ 0
  pub flat : o.flat ≡ replicate flat_size 0  -- the flat diary of a refused find is blank

-- whatever the desk holds
pub refused_lengths : (h : Held) (n : ℕ) (o : Outcome) → Refuses n o → o.lengths ≡ lengths_on h (found_shown o.answer)
refused_lengths h n o k = k.lengths ∙ none_refused h n (group_of n) ∙ ap (lengths_on h) (sym k.answer)

-- what is found, in the answer
pub record Works (G : Instance) (l p v : List ℕ) (o : Outcome) (l' p' v' : List ℕ) : Type 0 where
  pub found : code.Found
  pub answer : o.answer ≡ Ok found
  pub finds : FindsIn G (replicate flat_size 0) l p v found o.flat l' p' v'
  pub steps : o.steps ≡ steps_in found
  pub lengths : o.lengths ≡ lengths_of G (finding_shown found)

-- "15 a lent buffer below its size"
abbrev pub short : (room : ℕ) (l p v : List ℕ) → Bool
short room l p v = ltb room diary_size || (ltb (length l) left_size || (ltb (length p) plan_size || ltb (length v) plan_size))

-- what a refusal leaves
pub record Kept (n : ℕ) (l p v : List ℕ) (o : Outcome) (l' p' v' : List ℕ) : Type 0 where
  pub refuses : Refuses n o
  pub left : l' ≡ l
  pub plan : p' ≡ p
  pub rival : v' ≡ v

-- what is found of an accepted roster
pub record FoundFor (R : Roster) (l p v : List ℕ) (o : Outcome) (l' p' v' : List ℕ) : Type 0 where
  pub found : code.Found
  pub answer : o.answer ≡ Ok found
  pub finds : FindsFor R (replicate flat_size 0) l p v found o.flat l' p' v'
  pub steps : o.steps ≡ steps_in found
  pub lengths : o.lengths ≡ lengths_of (instance_of R) (finding_shown found)

abbrev pub OutcomeFor : Reading Roster → (isShort : Bool) (l p v : List ℕ) (o : Outcome) (l' p' v' : List ℕ) → Type 0
OutcomeFor (refused n) s l p v o l' p' v' = Kept 13 l p v o l' p' v'
OutcomeFor (accepted R) true l p v o l' p' v' = Kept 15 l p v o l' p' v'
OutcomeFor (accepted R) false l p v o l' p' v' = FoundFor R l p v o l' p' v'

abbrev pub Outcomes : (roster : List ℕ) (room : ℕ) (l p v : List ℕ) (o : Outcome) (l' p' v' : List ℕ) → Type 0
Outcomes roster room l p v = OutcomeFor (read_roster roster) (short room l p v) l p v

-- ---- how it follows
-- the finder on the roster's arrays, and the flat diary of its trace
module _ (g : arrays.Instance) (L : Loaded g) (l p v : List ℕ) (o : traced.Outcome) (l' p' v' : List ℕ) (F : Finds (shown_by g) l p v o l' p' v') where
  pub can_read : Readable g.sv g.st o.trace
  can_read = readable (shown_by g) g.sv g.st L.edges L.low_sv L.low_st o.trace F.traced

  pub works : (flat : List ℕ) → flat ≡ flat_of g.sv g.st g.sh o.trace → (n : Lengths) → n ≡ lengths_in o.answer (get_or p' 0 0) (get_or v' 0 0)
      → Works (shown_by g) l p v (record { answer = Ok o.answer; lengths = n; flat = flat; steps = o.trace.steps }) l' p' v'
  works flat q n w = record {
    found = o.answer;
    answer = refl;
    finds = record { wrote = F.wrote; diary = q ∙ trace_flat (shown_by g) g.sv g.st g.sh refl refl refl o.trace F.traced };
    steps = F.traced.steps ∙ sym (ap steps_in F.wrote.answer ∙ steps_are (length (steps_of (shown_by g))) (finder_of (shown_by g) (rival_of (shown_by g))));
    lengths = w ∙ (λ i. lengths_in (F.wrote.answer i) (get_or (F.wrote.plan i) 0 0) (get_or (F.wrote.rival i) 0 0))
        ∙ lengths_told (shown_by g) (length (steps_of (shown_by g))) p v ∙ ap (λ a. lengths_of (shown_by g) (finding_shown a)) (sym F.wrote.answer);
  }

-- the buffers have their sizes
pub sizes : (room : ℕ) (l p v : List ℕ) → short room l p v ≡ false → (left_size ≤ length l) × (plan_size ≤ length p) × (plan_size ≤ length v)
sizes room l p v e =
    let (a, f) = none (ltb room diary_size) (ltb (length l) left_size || (ltb (length p) plan_size || ltb (length v) plan_size)) e in
    let (b, g) = none (ltb (length l) left_size) (ltb (length p) plan_size || ltb (length v) plan_size) f in
    let (c, d) = none (ltb (length p) plan_size) (ltb (length v) plan_size) g in
    (nltb→le (length l) left_size (false_t b), nltb→le (length p) plan_size (false_t c), nltb→le (length v) plan_size (false_t d))
  where
    none : (a b : Bool) → a || b ≡ false → (a ≡ false) × (b ≡ false)
    none true b e = absurd (subst T e tt)
    none false b e = (refl, e)

-- of a roster that is accepted, with buffers of their sizes
pub out_settled : {roster : List ℕ} (room : ℕ) (l p v : List ℕ) → short room l p v ≡ false → (R : Roster) → read_roster roster ≡ accepted R
    → {g : arrays.Instance} → ArraysOf roster g → (o : Outcome) (l' p' v' : List ℕ) → Works (shown_by g) l p v o l' p' v' → Outcomes roster room l p v o l' p' v'
out_settled room l p v s R a A o l' p' v' w =
    subst (λ y. OutcomeFor y (short room l p v) l p v o l' p' v') (sym a)
    (subst (λ y. OutcomeFor (accepted R) y l p v o l' p' v') (sym s) (record {
      found = w.found;
      answer = w.answer;
      finds = record {
        fitting = A.fitting R a;
        few = subst (λ (G : Instance). G.m ≤ entry_limit) (A.instance R a) A.arrays.edges;
        finds = subst (λ G. FindsIn G (replicate flat_size 0) l p v w.found o.flat l' p' v') (A.instance R a) w.finds;
      };
      steps = w.steps;
      lengths = w.lengths ∙ ap (λ G. lengths_of G (finding_shown w.found)) (A.instance R a);
    }))

module _ (roster file : List ℕ) (room : ℕ) (l p v : List ℕ) {b : Bool} (is : b ≡ short room l p v) (x : Result OnDesk Refusal)
    (loaded : LoadedAs roster file false b x) where
  F : LoadedAs roster file false (short room l p v) x
  F = subst (λ b. LoadedAs roster file false b x) is loaded

  -- the state's refusal
  pub out_refused : {n : Refusal} → x ≡ Err n → (o : Outcome) → Refuses (number_of n) o → Outcomes roster room l p v o l p v
  out_refused {n} q o r = go (read_roster roster) (short room l p v) (subst (LoadedAs roster file false (short room l p v)) q F).number
    where
      kept : (m : ℕ) → number_of n ≡ m → Kept m l p v o l p v
      kept m e = record { refuses = subst (λ n. Refuses n o) e r; left = refl; plan = refl; rival = refl }

      go : (x : Reading Roster) (b : Bool) → number_of n ≡ state_number (held x file) false b → OutcomeFor x b l p v o l p v
      go (refused m) b e = kept 13 e
      go (accepted R) true e = kept 15 (e ∙ sym (unneeded R (read_plan (instance_of R) file) true))
      go (accepted R) false e = absurd
          (let q = e ∙ sym (unneeded R (read_plan (instance_of R) file) false) in let h = number_some n in let z : ⊥ = omega arith in z)

  module _ {k : OnDesk} (q : x ≡ Ok k) where
    L : LoadedFrom roster file false (short room l p v) 0 k
    L = subst (LoadedAs roster file false (short room l p v)) q F

    pub long_enough : (left_size ≤ length l) × (plan_size ≤ length p) × (plan_size ≤ length v)
    long_enough = sizes room l p v (its_length (omega arith) L)

    pub loaded_arrays : Loaded k.g
    loaded_arrays = given (its_roster (omega arith) L) (λ (R, e). (L.instance R e).0)

    pub out_found : (o : Outcome) (l' p' v' : List ℕ) → Works (shown_by k.g) l p v o l' p' v' → Outcomes roster room l p v o l' p' v'
    out_found o l' p' v' w = given (its_roster (omega arith) L) (λ (R, e).
        out_settled room l p v (its_length (omega arith) L) R e
        (record { arrays = (L.instance R e).0; instance = λ R e. (L.instance R e).1; fitting = L.fitting }) o l' p' v' w)
