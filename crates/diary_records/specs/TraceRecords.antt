-- The records of a run's trace: of each entry its rule, the rule's fate, and the ends and the shift of its edge. They are the model's diary.
use Prim.Native.Nat.{ℕ, suc, ◌+◌, ◌-◌, ◌*◌, ◌≤◌, ◌<◌, zero-le}
use native.Mathlib.Omega.{arith}
use Rattle.std.specs.Prelude.{◌≡◌, length, get_or, drop, replicate}
use Rattle.std.proofs.Math.Path.{refl, sym, ap, ap₂}
use Rattle.std.proofs.Common.{◌∙◌, length-append, get_or-append-add}
use mathlib.Core.List.Memᴰ
use mathlib.Core.List.{List, [], ◌∷◌, ◌++◌, map, append_assoc}
use Rattle.std.proofs.Math.ListN.{length-map, length-replicate, get_or-append}
use Rattle.lists.specs.Test.{given}
use Rattle.lists.specs.Sum.{range, range_length}
use Rattle.lists.specs.Keep.{get_d_∈}
use Rattle.model.specs.Limits.{entry_limit, node_limit}
use Rattle.model.specs.Instance.{Instance}
use Rattle.model.specs.Reduction.{Step, State, begin, steps_from, steps_of}
use Rattle.model.specs.Finder.{Record, record_of, diary_of}
use Rattle.theory_reduction.specs.RuleNumbers.{step_of}
use Rattle.theory_reduction.specs.Course.{along, steps_below, steps_few}
use Rattle.arrays.specs.ArrayInstance.{at}
use Rattle.arrays.specs.Passes.{Low}
use Rattle.reduction_state.specs.declared.Trace.{Trace}
use Rattle.reduction_state.specs.Trace.{Traced}
use Rattle.diary.specs.FlatDiary.{record_width, flat_size, entry, written, put, put_length, laid, laid_is}

-- what can be read of a trace: entries that are there, of edges that are there; of shifts nothing is asked
pub record Readable (sv st : List ℕ) (t : Trace) : Type 0 where
  pub few : t.steps ≤ entry_limit
  pub edges : (i : ℕ) → i < t.steps → at t.edges i < entry_limit
  pub low_sv : Low entry_limit sv node_limit
  pub low_st : Low entry_limit st node_limit

module _ (sv st sh : List ℕ) where
  -- the record of an entry
  abbrev pub entry_at : Trace → ℕ → Record
  entry_at t i = entry (at t.rules i) (at sv (at t.edges i)) (at st (at t.edges i)) (at sh (at t.edges i))

  abbrev pub records_of : Trace → List Record
  records_of t = map (entry_at t) (range 0 t.steps)

  -- the flat diary of a trace
  abbrev pub flat_of : Trace → List ℕ
  flat_of t = written (records_of t) (replicate flat_size 0)

  -- ---- entry by entry: a flat diary with the records below i written
  pub record Telling (t : Trace) (i : ℕ) (flat : List ℕ) : Type 0 where
    pub within : i ≤ t.steps
    pub size : length flat ≡ flat_size
    pub ahead : laid 0 (records_of t) (replicate flat_size 0) ≡ laid i (map (entry_at t) (range i (t.steps - i))) flat

  pub telling_first : (t : Trace) → Telling t 0 (replicate flat_size 0)
  telling_first t = let e : t.steps ≡ t.steps - 0 = omega arith in record {
    within = zero-le;
    size = length-replicate {A = ℕ} flat_size 0;
    ahead = ap (λ n. laid 0 (map (entry_at t) (range 0 n)) (replicate flat_size 0)) e;
  }

  pub telling_next : (t : Trace) (i : ℕ) (flat flat' : List ℕ) → Telling t i flat → i < t.steps → flat' ≡ put flat (i * record_width) (entry_at t i)
      → Telling t (i + 1) flat'
  unfolding laid
  telling_next t i flat flat' T h q =
      let k : t.steps - i ≡ suc (t.steps - (i + 1)) = omega arith in
      let one : suc i ≡ i + 1 = omega arith in
      record {
        within = omega arith;
        size = put_length flat flat' (i * record_width) (entry_at t i) q ∙ T.size;
        ahead = T.ahead ∙ ap (λ n. laid i (map (entry_at t) (range i n)) flat) k
            ∙ ap₂ (λ (n : ℕ) (d : List ℕ). laid (i + 1) (map (entry_at t) (range n (t.steps - (i + 1)))) d) one (sym q);
      }

  pub told : (t : Trace) (i : ℕ) (flat : List ℕ) → Telling t i flat → t.steps ≤ i → t.steps ≤ entry_limit → flat ≡ flat_of t
  unfolding laid
  told t i flat T h few =
      let none : 0 ≡ t.steps - i = omega arith in
      ap (λ n. laid i (map (entry_at t) (range i n)) flat) none ∙ sym T.ahead
      ∙ laid_is (records_of t) [] (replicate flat_size 0) 0 refl
      (omega (arith, length-map (range 0 t.steps) (entry_at t), range_length 0 t.steps, length-replicate {A = ℕ} flat_size 0))

  -- ---- the entries of some steps
  abbrev of_step : Step → Record
  of_step s = entry s.rule (at sv s.edge) (at st s.edge) (at sh s.edge)

  head_at : (xs : List ℕ) (y : ℕ) (zs : List ℕ) (k : ℕ) → length xs ≡ k → at (xs ++ y ∷ zs) k ≡ y
  head_at xs y zs k h = ap (at (xs ++ y ∷ zs)) (let e : k ≡ length xs + 0 = omega arith in e) ∙ get_or-append-add xs (y ∷ zs) 0 0

  entries_from_law : (ss : List Step) (xs ys es rs : List ℕ) (k n : ℕ) → length xs ≡ k → length ys ≡ k
      → map (entry_at (record { edges = xs ++ (map (λ s. s.edge) ss ++ es); rules = ys ++ (map (λ s. s.rule) ss ++ rs); steps = n })) (range k (length ss))
      ≡ map of_step ss
  entries_from_law [] xs ys es rs k n a b = refl
  entries_from_law (s ∷ ss) xs ys es rs k n a b =
      let e = head_at xs s.edge (map (λ s. s.edge) ss ++ es) k a in
      let r = head_at ys s.rule (map (λ s. s.rule) ss ++ rs) k b in
      let longer : (zs : List ℕ) (z : ℕ) → length zs ≡ k → length (zs ++ z ∷ []) ≡ suc k
      = λ zs z h. omega (arith, length-append zs (z ∷ [])) in
      ap₂ (λ (x : Record) (l : List Record). x ∷ l)
      (ap₂ (λ (i j : ℕ). entry i (at sv j) (at st j) (at sh j)) r e)
      (ap₂ (λ (u v : List ℕ). map (entry_at (record { edges = u; rules = v; steps = n })) (range (suc k) (length ss)))
      (sym (append_assoc xs (s.edge ∷ []) (map (λ s. s.edge) ss ++ es))) (sym (append_assoc ys (s.rule ∷ []) (map (λ s. s.rule) ss ++ rs)))
      ∙ entries_from_law ss (xs ++ s.edge ∷ []) (ys ++ s.rule ∷ []) es rs (suc k) n (longer xs s.edge a) (longer ys s.rule b))

  entries_are : (ss : List Step) (t : Trace) → Traced ss t → records_of t ≡ map of_step ss
  entries_are ss t T =
      (λ i. map (entry_at (record { edges = T.edges i; rules = T.rules i; steps = T.steps i })) (range 0 (T.steps i)))
      ∙ entries_from_law ss [] [] (drop (length (map (λ s. s.edge) ss)) (replicate entry_limit 0))
      (drop (length (map (λ s. s.rule) ss)) (replicate entry_limit 0)) 0
      (length ss) refl refl

-- ---- of the steps that the model takes: a step's fate is its rule's
module _ (G : Instance) where
  abbrev step_record : Step → Record
  step_record s = entry s.rule (G.sv s.edge) (G.st s.edge) (G.sh s.edge)

  steps_records : (n : ℕ) (Z : State) → map step_record (steps_from G n Z) ≡ map (record_of G) (steps_from G n Z)
  steps_records = along G (λ n Z ss Y. map step_record ss ≡ map (record_of G) ss) (λ n Z h. refl)
      (λ n Z ss Y h same. ap (λ (l : List Record). record_of G (step_of G Z) ∷ l) same)

-- the trace of a whole run has the model's records
pub trace_diary : (G : Instance) (sv st sh : List ℕ) → G.sv ≡ at sv → G.st ≡ at st → G.sh ≡ at sh → (t : Trace) → Traced (steps_of G) t
    → records_of sv st sh t ≡ diary_of G
unfolding diary_of steps_of
trace_diary G sv st sh a b c t T = entries_are sv st sh (steps_of G) t T
    ∙ ap₂ (λ (f g : ℕ → ℕ). map (λ s. entry s.rule (f s.edge) (g s.edge) (at sh s.edge)) (steps_of G)) (sym a) (sym b)
    ∙ ap (λ (f : ℕ → ℕ). map (λ s. entry s.rule (G.sv s.edge) (G.st s.edge) (f s.edge)) (steps_of G)) (sym c)
    ∙ steps_records G G.m (begin G)

-- and its flat diary holds them
pub trace_flat : (G : Instance) (sv st sh : List ℕ) → G.sv ≡ at sv → G.st ≡ at st → G.sh ≡ at sh → (t : Trace) → Traced (steps_of G) t
    → flat_of sv st sh t ≡ written (diary_of G) (replicate flat_size 0)
trace_flat G sv st sh a b c t T = ap (λ (rs : List Record). written rs (replicate flat_size 0)) (trace_diary G sv st sh a b c t T)

-- it can be read
pub readable : (G : Instance) (sv st : List ℕ) → G.m ≤ entry_limit → ((e : ℕ) → at sv e < node_limit) → ((e : ℕ) → at st e < node_limit)
    → (t : Trace) → Traced (steps_of G) t → Readable sv st t
readable G sv st few a b t T = record {
  few = omega (arith, T.steps, steps_few G);
  edges = λ i h.
      let k : i < length edges = omega (arith, T.steps, length-map (steps_of G) (λ s. s.edge)) in
      let q : at t.edges i ≡ get_or edges i 0 =
      ap (λ (l : List ℕ). at l i) T.edges ∙ get_or-append edges (drop (length edges) (replicate entry_limit 0)) 0 i k in
      given (Memᴰ.of_map (λ s. s.edge) (steps_of G) (get_d_∈ edges i 0 k)) (λ (s, j, e). omega (arith, steps_below G s j));
  low_sv = λ e h. a e;
  low_st = λ e h. b e;
}
  where
    edges : List ℕ
    edges = map (λ s. s.edge) (steps_of G)
