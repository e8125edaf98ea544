-- The pass that looks for the first edge that passes: the one of the least key among those seen, and its key.
use Rattle.std.specs.Prelude.{ℕ, ◌+◌, ◌*◌, ◌≤◌, ◌<◌, ◌≡◌, refl, ◌⊎◌, Bool, true, false, not, ◌&&◌, T, ltb}
use Rattle.std.proofs.Common.{arith, not-suc-le-zero, sym, ◌∙◌, subst, inl, inr, ⊎_elim, ltb→lt, nltb→le}
use Rattle.std.proofs.Math.Decide.{dec_lt}
use Rattle.std.proofs.Math.Logic.{by_cases}
use Rattle.std.proofs.Math.Dec.{not_T}
use Rattle.lists.specs.Test.{true_t, false_t, and_l, and_r, nand_r}
use Rattle.model.specs.Limits.{empty_rank, node_limit}
use Rattle.model.specs.Blocking.{top_of}
use Rattle.theory_instance.specs.TopBlocking.{key, top_is, top_none}

-- a key is below that of a surveyor behind all
pub key_low : (sv rank : ℕ → ℕ) (e : ℕ) → sv e < node_limit → rank e < empty_rank → key sv rank e < node_limit * empty_rank
key_low sv rank e h k = omega arith

module _ (sv rank : ℕ → ℕ) (m : ℕ) (p : ℕ → Bool) where
  -- before any edge passes there is none, and the key is above all keys
  pub record Seen (i top k : ℕ) : Type 0 where
    pub least : (d : ℕ) → d < i → T (p d) → k ≤ key sv rank d
    pub here : ((top ≡ m) × (k ≡ node_limit * empty_rank) × ((d : ℕ) → d < i → T (not (p d))))
        ⊎ ((top < i) × (k ≡ key sv rank top) × T (p top) × ((d : ℕ) → d < top → T (p d) → k < key sv rank d))

  pub seen_none : Seen 0 m (node_limit * empty_rank)
  seen_none = record { least = λ d h. absurd (not-suc-le-zero h); here = inl (refl, refl, λ d h. absurd (not-suc-le-zero h)) }

  -- the edge at i or one before it
  at_or_below : {i d : ℕ} → d < i + 1 → (d ≡ i) ⊎ (d < i)
  at_or_below {i} {d} h = by_cases (dec_lt d i) inr (λ n. inl (omega arith))

  -- edge i does not pass, or its key is no lower
  seen_same : {i top k : ℕ} → Seen i top k → key sv rank i < node_limit * empty_rank → (T (p i) → k ≤ key sv rank i) → Seen (i + 1) top k
  seen_same {i} {top} {k} s l h = record {
    least = λ d b t. ⊎_elim (λ e. subst (λ z. k ≤ key sv rank z) (sym e) (h (subst (λ z. T (p z)) e t))) (λ c. s.least d c t) (at_or_below b);
    here = ⊎_elim
        (λ (e, q, none). inl (e, q, λ d b. ⊎_elim (λ e. subst (λ z. T (not (p z))) (sym e) (fails q)) (none d) (at_or_below b)))
        (λ (b, q, t, least). inr (omega arith, q, t, least))
        s.here;
  }
    where
      fails : k ≡ node_limit * empty_rank → T (not (p i))
      fails q = not_T (p i) (λ t. let g = h t in let z : ⊥ = omega arith in absurd z)

  -- edge i passes with a lower key
  seen_new : {i top k : ℕ} → Seen i top k → T (p i) → key sv rank i < k → Seen (i + 1) i (key sv rank i)
  seen_new {i} {top} {k} s t h = record {
    least = λ d b u. ⊎_elim (λ e. subst (λ z. key sv rank i ≤ key sv rank z) (sym e) (omega arith)) (λ c. omega (arith, s.least d c u)) (at_or_below b);
    here = inr (omega arith, refl, t, λ d b u. let g = s.least d b u in omega arith);
  }

  -- what the pass tests of edge i
  pub seen_taken : {i top k : ℕ} → Seen i top k → p i && ltb (key sv rank i) k ≡ true → Seen (i + 1) i (key sv rank i)
  seen_taken {i} {top} {k} s t =
      let y = true_t t in seen_new s (and_l (p i) (ltb (key sv rank i) k) y) (ltb→lt (key sv rank i) k (and_r (p i) (ltb (key sv rank i) k) y))

  pub seen_left : {i top k : ℕ} → Seen i top k → key sv rank i < node_limit * empty_rank → p i && ltb (key sv rank i) k ≡ false → Seen (i + 1) top k
  seen_left {i} {top} {k} s l f = seen_same s l (λ t. nltb→le (key sv rank i) k (nand_r (p i) (ltb (key sv rank i) k) (false_t f) t))

  pub seen_all : {top k : ℕ} → Seen m top k → ((e : ℕ) → e < m → rank e < empty_rank) → top ≡ top_of sv rank m p
  seen_all {top} {k} s placed = ⊎_elim
      (λ (e, q, none). e ∙ sym (top_none sv rank m p placed none))
      (λ (b, q, t, least). sym (top_is sv rank m p placed top b t (λ d c u. omega (arith, s.least d c u)) (λ d c u. omega (arith, least d c u))))
      s.here
