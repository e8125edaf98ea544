-- The early stop: where a layer adds nothing to the one before, none after it does, and no later level finds anything that this one does
-- not. So the search that stops there finds the same, the rival too.
use Prim.Native.Nat.{ℕ, zero, suc, ◌+◌, ◌*◌, ◌≤◌}
use Rattle.std.proofs.Common.{arith, ◌∙◌}
use Rattle.std.specs.Prelude.{◌≡◌, Bool, T}
use Rattle.std.proofs.Math.Path.{refl, sym, ap, ap₂}
use Rattle.std.proofs.Math.Option.{none, or_else}
use Rattle.std.proofs.Math.Dec.{ltb, leb, leb→le}
use Rattle.std.proofs.Math.Arith.{le→nltb}
use Rattle.lists.specs.Test.{if-ind}
use Rattle.lists.specs.Keep.{all_∈, product, product_∈, ∈_product}
use Rattle.lists.specs.First.{or_same, first_none}
use Rattle.model.specs.Instance.{Instance}
use Rattle.theory_instance.specs.Walk.{Old}
use Rattle.theory_verdict.specs.Search.{kept, loop, olds, terminal, walk_price, trace, as_path, directs, alone_at, loop_at, path_at, levels}
use Rattle.theory_verdict.specs.Search.{search, still, levels', search'}
use Rattle.theory_verdict.specs.Table.{Still, still_next}
use Rattle.theory_verdict.specs.Cells.{old_∈, ∈_old, next}
use Rattle.theory_verdict.specs.Levels.{loop_at_answer, path_at_answer}

module _ (G : Instance) (M : ℕ → Bool) (lid k : ℕ) where
  abbrev Stays : ℕ → Type 0
  Stays n = Still G M lid (walk_price G M lid n) (walk_price G M lid (suc n))

  stays : (n : ℕ) → T (still G M lid k n) → Stays n
  unfolding still
  stays n t x z ox oz = leb→le (kept lid (walk_price G M lid n x z)) (walk_price G M lid (suc n) x z)
      (all_∈ (λ p. leb (kept lid (walk_price G M lid n p.0 p.1)) (walk_price G M lid (suc n) p.0 p.1)) (product (olds G M) (olds G M)) t
      (x, z) (product_∈ (olds G M) (olds G M) (old_∈ G M ox) (old_∈ G M oz)))

  -- level n finds nothing
  record Quiet (n : ℕ) : Type 0 where
    loops : (x : ℕ) → Old G M x → 2 * suc n + k ≤ walk_price G M lid n x x
    paths : (x y : ℕ) → Old G M x → Old G M y → 2 * suc n + 4 + k ≤ walk_price G M lid n x y + (terminal G M x y).0

  quiet_on : (n : ℕ) → 2 * suc (suc n) + 4 + k ≤ lid → Stays n → Quiet n → Quiet (suc n)
  quiet_on n h s q = record {
    loops = λ x o. omega (arith, s x x o o, q.loops x o);
    paths = λ x y ox oy. omega (arith, s x y ox oy, q.paths x y ox oy);
  }

  quiet_none : (n : ℕ) → Quiet n → (loop_at G M lid k n ≡ none) × (path_at G M lid k n ≡ none)
  unfolding loop_at path_at
  quiet_none n q = (
    first_none (λ x. ltb (walk_price G M lid n x x) (2 * suc n + k)) (λ x. loop x (trace G M lid n x x)) (olds G M)
        (λ x m. le→nltb (walk_price G M lid n x x) (2 * suc n + k) (q.loops x (∈_old G M m))),
    first_none (λ p. ltb (walk_price G M lid n p.0 p.1 + (terminal G M p.0 p.1).0) (2 * suc n + 4 + k))
        (λ p. as_path G M p.0 p.1 (trace G M lid n p.0 p.1)) (product (olds G M) (olds G M))
        (λ p m. let (i, j) = ∈_product p (olds G M) (olds G M) m in
        le→nltb (walk_price G M lid n p.0 p.1 + (terminal G M p.0 p.1).0) (2 * suc n + 4 + k) (q.paths p.0 p.1 (∈_old G M i) (∈_old G M j))),
  )

  -- nor does any later one
  silent : (j n : ℕ) → 2 * (j + suc n) + 4 + k ≤ lid → Stays n → Quiet n → levels G M lid k j (suc n) ≡ none
  unfolding levels or_else
  silent zero n h s q = refl
  silent (suc j) n h s q =
      let q' = quiet_on n (omega arith) s q in
      let (a, b) = quiet_none (suc n) q' in
      ap₂ (λ o r. or_else o (or_else r (levels G M lid k j (suc (suc n))))) a b
      ∙ silent j (suc n) (omega arith) (still_next G M (next G M lid n) (next G M lid (suc n)) s) q'

  levels_same : (B j n : ℕ) → j + n ≡ B → 2 * B + 4 + k ≤ lid → levels' G M lid k j n ≡ levels G M lid k j n
  unfolding levels levels'
  levels_same B zero n e h = refl
  levels_same B (suc j) n e h = or_same (loop_at_answer G M lid k n {P = λ t. Unit {0}} (λ x o l. tt))
      (λ loops. or_same (path_at_answer G M lid k n {P = λ t. Unit {0}} (λ x y ox oy l. tt)) (λ paths.
      if-ind (λ o. o ≡ levels G M lid k j (suc n)) (still G M lid k n)
      (λ t. sym (silent j n (omega arith) (stays n t) (record { loops = loops; paths = paths })))
      (λ t. levels_same B j (suc n) (omega arith) h)))

  -- under a lid that is high enough for B levels, the search with the early stop finds the same as the one without
  pub search_same : (B : ℕ) → 2 * B + 4 + k ≤ lid → search' G M lid k B ≡ search G M lid k B
  unfolding search search'
  search_same B h = ap (λ o. or_else (directs G M) (or_else (alone_at G M lid k) o)) (levels_same B B 0 (omega arith) h)
