-- A plan's file, turned: what is written for an accepted one is the same plan in the other layout, so that the answer and the bytes are the
-- model's conversion against the instance that the file was read with.
use Rattle.std.specs.Prelude.{ℕ, ◌+◌, ◌-◌, ◌*◌, ◌≤◌, ◌≡◌, Bool, true, false, not, cond, ◌&&◌, drop, T, Result}
use Rattle.std.proofs.Common.{arith, ◌∙◌, subst, length-append, length-drop}
use Rattle.std.proofs.Math.Path.{refl, sym, ap, ap₂}
use mathlib.Core.List.{List, [], ◌∷◌, ◌++◌, map}
use Rattle.std.proofs.Math.ListN.{length}
use Rattle.std.proofs.lemmas.List.{length-map}
use Rattle.lists.specs.Test.{given, T_true, true_t, false_t, and_l, and_r}
use Rattle.lists.specs.Keep.{all?, gather}
use Rattle.model.specs.Limits.{plan_limit}
use Rattle.model.specs.Reading.{Reading, accepted, refused, is_bytes}
use Rattle.model.specs.Instance.{Instance}
use Rattle.model.specs.Plans.{Plan, on}
use Rattle.model.specs.PlanFile.{Named, name_of, plain_pair, edges_in, plan_bytes_by, plan_bytes, read_plan}
use Rattle.model_desk.specs.Seasons.{only_first_pairs, plan_to_new, plan_to_old}
use Rattle.model_desk.specs.Desk as model
use Rattle.model_desk.specs.Desk.{converted_answer, converted_onto}
use Rattle.theory_files.specs.Reads.{read_value, read_rest}
use Rattle.theory_files.specs.Layouts.{PairAgrees, in_shifted_pair, in_plain_pair}
use Rattle.theory_files.specs.PlanFiles.{Fileable, plan_read_write_by, plan_read_within_by, plan_read_held, plan_few, bytes_are, bytes_size}
use Rattle.theory_files.specs.PlanSeasons.{old_plan_taken, new_plan_taken, new_plan_refused, old_plan_turned_away, new_plan_turned_away}
use Rattle.std.specs.declared.result.Result.TheVariants.{Ok, Err}
use Rattle.answers.specs.declared.Refusal.{Refusal}
use Rattle.answers.specs.RefusalCases.{number_of}
use Rattle.answers.specs.WrittenCases.{written_shown}
use Rattle.pair_bytes.specs.PairAt.{pair_layout, width_of, named_at, field_at}
use Rattle.plan_reader.specs.Answers.{answer_of, plan_in}
use Rattle.plan_turned.specs.Pairs.{pairs_from, first_pair, other_pairs, other_plan, pairs_turned, PairsTurned}

-- the way by the layout that is read
abbrev pub plan_by : (shifts : Bool) → Instance → List ℕ → Reading (List ℕ)
plan_by true = plan_to_old
plan_by false = plan_to_new

-- the answer is what the file is read to, against an instance whose pairs differ
abbrev pub ReadWith : (shifts : Bool) → List ℕ → Reading ℕ → Instance → Type 0
ReadWith shifts f a G = Fileable G × (a ≡ answer_of G.m (plan_in shifts G f))

abbrev pub SomePlan : (shifts : Bool) → List ℕ → Reading ℕ → Type 0
SomePlan shifts f a = (G : Instance) × ReadWith shifts f a G

-- against each such instance the answer and the bytes are the model's
pub record TurnedFor (shifts : Bool) (G : Instance) (f o : List ℕ) (r : Result ℕ Refusal) (o' : List ℕ) : Type 0 where
  pub answer : written_shown r ≡ converted_answer (plan_by shifts G f)
  pub lent : o' ≡ converted_onto (plan_by shifts G f) o

abbrev pub PlanTurned : (shifts : Bool) (a : Reading ℕ) (f o : List ℕ) (r : Result ℕ Refusal) (o' : List ℕ) → Type 0
PlanTurned shifts a f o r o' = (G : Instance) → ReadWith shifts f a G → TurnedFor shifts G f o r o'

abbrev agrees : (shifts : Bool) → PairAgrees (pair_layout shifts)
agrees true = in_shifted_pair
agrees false = in_plain_pair

same_width : (shifts : Bool) → (agrees shifts).width ≡ width_of shifts
same_width true = refl
same_width false = refl

-- ---- the pairs at a place are those that were written there
module _ (shifts : Bool) (f : List ℕ) where
  pair_at_law : (at : ℕ) (p : Named) (rest : List ℕ) → T ((agrees shifts).holds p) → drop at f ≡ (pair_layout shifts).bytes p ++ rest
      → (named_at shifts f at ≡ p) × (drop (at + width_of shifts) f ≡ rest)
  pair_at_law at p rest t e =
      let room : at + width_of shifts ≤ length f = inside (width_of shifts) (length rest)
      (sym (length-drop at f) ∙ ap length e ∙ length-append ((pair_layout shifts).bytes p) rest
      ∙ ap (λ k. k + length rest) ((agrees shifts).wide p ∙ same_width shifts))
      (some shifts) in
      let q = sym (field_at shifts f at room) ∙ ap (pair_layout shifts).field e ∙ (agrees shifts).reads.forth p rest t in
      (read_value q, read_rest q)
    where
      inside : (w k : ℕ) → length f - at ≡ w + k → 1 ≤ w → at + w ≤ length f
      inside w k e h = omega arith

      some : (b : Bool) → 1 ≤ width_of b
      some true = omega arith
      some false = omega arith

  pairs_back : (ps : List Named) (at : ℕ) → T (all? (agrees shifts).holds ps) → drop at f ≡ gather (pair_layout shifts).bytes ps
      → pairs_from shifts f (length ps) at ≡ ps
  unfolding pairs_from
  pairs_back [] at t e = refl
  pairs_back (p ∷ ps) at t e = given (pair_at_law at p (gather (pair_layout shifts).bytes ps) (and_l ((agrees shifts).holds p) (all? (agrees shifts).holds ps) t) e)
      (λ (q, r). ap₂ (λ x xs. x ∷ xs) q (pairs_back ps (at + width_of shifts) (and_r ((agrees shifts).holds p) (all? (agrees shifts).holds ps) t) r))

all_map : {A B : Type 0} (p : B → Bool) (g : A → B) (xs : List A) → all? p (map g xs) ≡ all? (λ x. p (g x)) xs
all_map p g [] = refl
all_map p g (x ∷ xs) = ap (λ b. p (g x) && b) (all_map p g xs)

-- ---- an accepted file
module _ (shifts : Bool) (G : Instance) (F : Fileable G) (f : List ℕ) (is_b : T (is_bytes f)) (M : Plan) (a : plan_in shifts G f ≡ accepted M) where
  abbrev ds : List ℕ
  ds = edges_in G.m (on M)

  abbrev names : List Named
  names = map (name_of G) ds

  file_is : f ≡ length ds ∷ gather (pair_layout shifts).bytes names
  unfolding plan_bytes_by
  file_is = sym (plan_read_write_by G (pair_layout shifts) (agrees shifts) f M is_b a)
      ∙ ap (λ z. length ds ∷ z) (bytes_are G (pair_layout shifts) (agrees shifts) ds)

  pub pairs_few : length ds ≤ plan_limit
  pairs_few = plan_few G F M (plan_read_within_by G (pair_layout shifts) (agrees shifts) f M is_b a)

  pub pairs_there : width_of shifts * length ds + 1 ≤ length f
  pairs_there = omega (
    arith,
    ap length file_is,
    bytes_size G (pair_layout shifts) (agrees shifts) names,
    ap₂ (λ w k. w * k) (same_width shifts) (length-map ds (name_of G)),
  )

  pairs_are : pairs_from shifts f (length ds) 1 ≡ names
  pairs_are = ap (λ k. pairs_from shifts f k 1) (sym (length-map ds (name_of G))) ∙ pairs_back shifts f names 1
      (subst T (sym (all_map (agrees shifts).holds (name_of G) ds)) (plan_read_held G (pair_layout shifts) (agrees shifts) f M is_b a)) (ap (drop 1) file_is)

  first_is : all? first_pair (pairs_from shifts f (length ds) 1) ≡ only_first_pairs G M
  first_is = ap (all? first_pair) pairs_are ∙ all_map first_pair (name_of G) ds

  other_is : other_plan shifts f (length ds) ≡ plan_bytes_by (pair_layout (not shifts)) G M
  unfolding plan_bytes_by
  other_is = ap (λ z. length ds ∷ z) (ap (other_pairs shifts) pairs_are ∙ sym (bytes_are G (pair_layout (not shifts)) (agrees (not shifts)) ds))

  -- what the model says of it
  model_is : plan_by shifts G f ≡ cond (only_first_pairs G M) (accepted (plan_bytes_by (pair_layout (not shifts)) G M)) (refused 19)
  model_is = go shifts a
    where
      by_first : (b : Bool) → only_first_pairs G M ≡ b → read_plan G f ≡ accepted M
          → plan_to_old G f ≡ cond b (accepted (plan_bytes_by plain_pair G M)) (refused 19)
      by_first true e a = new_plan_taken G f M a (true_t e)
      by_first false e a = new_plan_refused G f M a (false_t e)

      go : (b : Bool) → plan_in b G f ≡ accepted M → plan_by b G f ≡ cond (only_first_pairs G M) (accepted (plan_bytes_by (pair_layout (not b)) G M)) (refused 19)
      go true a = by_first (only_first_pairs G M) refl a
      go false a = old_plan_taken G f M a ∙ sym (ap (λ b. cond b (accepted (plan_bytes G M)) (refused 19))
          (T_true {b = only_first_pairs G M} (plan_read_held G plain_pair in_plain_pair f M is_b a)))

  turned_is : pairs_turned shifts f (length ds) ≡ plan_by shifts G f
  turned_is = ap₂ (λ b z. cond b (accepted z) (refused 19)) first_is other_is ∙ sym model_is

  pub turned_for : (n : ℕ) → n ≡ length ds → {o : List ℕ} {r : Result ℕ Refusal} {o' : List ℕ} → PairsTurned shifts f n o r o' → TurnedFor shifts G f o r o'
  turned_for n e {o} X =
      let q = ap (pairs_turned shifts f) e ∙ turned_is in
      record { answer = X.answer ∙ ap converted_answer q; lent = X.lent ∙ ap (λ x. converted_onto x o) q }

-- ---- what an answer says of the reading
abbrev is_accepted : Reading ℕ → Bool
is_accepted (accepted n) = true
is_accepted (refused n) = false

abbrev number_in : Reading ℕ → ℕ
number_in (accepted n) = n
number_in (refused n) = n

answer_accepted : (m : ℕ) (x : Reading Plan) {n : ℕ} → accepted n ≡ answer_of m x → (M : Plan) × (x ≡ accepted M) × (n ≡ length (edges_in m (on M)))
answer_accepted m (accepted M) e = (M, refl, ap number_in e)
answer_accepted m (refused k) e = absurd (subst (λ a. T (is_accepted a)) e tt)

answer_refused : (m : ℕ) (x : Reading Plan) {n : ℕ} → refused n ≡ answer_of m x → x ≡ refused n
answer_refused m (accepted M) e = absurd (subst (λ a. T (is_accepted a)) (sym e) tt)
answer_refused m (refused k) e = ap (λ a. refused (number_in a)) (sym e)

module _ (shifts : Bool) (f : List ℕ) (a : Reading ℕ) where
  -- the pairs of an accepted one are there
  pub accepted_room : T (is_bytes f) → {n : ℕ} → a ≡ accepted n → SomePlan shifts f a → (n ≤ plan_limit) × (width_of shifts * n + 1 ≤ length f)
  accepted_room is_b {n} e (G, (F, q)) = given (answer_accepted G.m (plan_in shifts G f) (sym e ∙ q)) (λ (M, x, k).
      subst (λ j. (j ≤ plan_limit) × (width_of shifts * j + 1 ≤ length f)) (sym k) (pairs_few shifts G F f is_b M x, pairs_there shifts G F f is_b M x))

  pub accepted_turned : T (is_bytes f) → {n : ℕ} → a ≡ accepted n → {o : List ℕ} {r : Result ℕ Refusal} {o' : List ℕ} → PairsTurned shifts f n o r o'
      → PlanTurned shifts a f o r o'
  accepted_turned is_b {n} e X G (F, q) = given (answer_accepted G.m (plan_in shifts G f) (sym e ∙ q)) (λ (M, x, k). turned_for shifts G F f is_b M x n k X)

  pub refused_turned : (r : Refusal) → a ≡ refused (number_of r) → (o : List ℕ) → PlanTurned shifts a f o (Err r) o
  refused_turned r e o G (F, q) =
      let x = away shifts (answer_refused G.m (plan_in shifts G f) (sym e ∙ q)) in
      record { answer = sym (ap converted_answer x); lent = sym (ap (λ y. converted_onto y o) x) }
    where
      away : (b : Bool) → plan_in b G f ≡ refused (number_of r) → plan_by b G f ≡ refused (number_of r)
      away true e = new_plan_turned_away G f (number_of r) e
      away false e = old_plan_turned_away G f (number_of r) e
