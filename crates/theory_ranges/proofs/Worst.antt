-- The theorems that rest on specs/Worst.antt. They stand here so that a wrong definition there is refused by a proof.
use Rattle.std.specs.Prelude.{ℕ, ◌+◌, ◌≤◌, ◌<◌, ◌≡◌, refl, ◌≢◌, ◌⊎◌, Bool, true, false, not, cond, ◌&&◌, ◌||◌, List, length, get_or, T, eqb, ◌≤ℤ◌}
use Rattle.std.proofs.Common.{zero-le, arith, sym, ap, ◌∙◌, subst, inl, inr, ⊎_elim, T_not, eqb→eq}
use Rattle.std.proofs.Math.Decide.{dec_lt}
use Rattle.std.proofs.Math.Logic.{⊎_map, by_cases}
use Rattle.std.proofs.Math.ListN.{get_or-eq_default}
use Rattle.std.proofs.Math.Dec.{not_T, eqb_refl}
use Rattle.lists.specs.Test.{by-test, T_true, T_false, true_t, false_t, and_l, and_r, and_i, or_l, or_r, or_case}
use Rattle.lists.specs.Sum.{range, range_∈, ∈_range}
use Rattle.lists.specs.Keep.{any?, any_∈, none_∈, keep_∈, ∈_keep}
use Rattle.model.specs.Instance.{Instance}
use Rattle.model.specs.Vote.{vote}
use Rattle.model.specs.PlanFile.{edges_in}
use Rattle.model.specs.Ranges.{Range, range_at, Choice}
use Rattle.theory_instance.specs.Lawful.{Matching}
use Rattle.theory_ranges.specs.Falls.{with_ranks, vote_falls}
use Rattle.theory_ranges.specs.Places.{place_in, place_differs, place_below}
use Rattle.theory_ranges.specs.Worst.{Fit, choice_placed, worst_by, worst_choice_law, worst_is, worst_length}

module _ (G : Instance) where
  -- where an edge's two entries stand in the roster's order: the surveyors' entries, then the stands'
  abbrev entry_s : ℕ → ℕ
  entry_s e = place_in G.m G.sv G.rank_s e

  -- where an edge's entry in its stand's list stands: behind the surveyors' entries
  abbrev entry_t : ℕ → ℕ
  entry_t e = G.m + place_in G.m G.st G.rank_t e

  -- the instance with a rank for each place
  abbrev ranked_by : List ℕ → Instance
  ranked_by ws = with_ranks G (λ e. get_or ws (entry_s e) 0) (λ e. get_or ws (entry_t e) 0)

  -- the edge is not in N, and one of its entries stands at k
  abbrev raises : (ℕ → Bool) → ℕ → ℕ → Bool
  raises N k e = not (N e) && (eqb (entry_s e) k || eqb (entry_t e) k)

  -- by M's edges as a list
  abbrev raised : (N : ℕ → Bool) (es : List ℕ) → ℕ → Bool
  raised N es k = any? (raises N k) es

  -- the same for the edges of a set M: the choice that reaches the least vote
  abbrev worst_choice : (M N : ℕ → Bool) → List Range → List ℕ
  worst_choice M N rs = worst_by G N (edges_in G.m M) rs

  module _ (M N : ℕ → Bool) (rs : List Range) where
    abbrev es : List ℕ
    es = edges_in G.m M

    abbrev ours : List ℕ
    ours = worst_choice M N rs

    -- an own edge of M raises its places; an own edge of N has places that none raises
    hit : (d k : ℕ) → d < G.m → M d ≡ true → N d ≡ false → (entry_s d ≡ k) ⊎ (entry_t d ≡ k) → raised N es k ≡ true
    hit d k l a b w = by-test (raised N es k) T_true (λ n. absurd (T_not (raises N k d)
        (none_∈ (raises N k) es n d (keep_∈ M (range 0 G.m) (range_∈ G.m 0 d zero-le (omega arith)) (true_t a)))
        (and_i (not (N d)) (eqb (entry_s d) k || eqb (entry_t d) k) (false_t b) (⊎_elim
        (λ e. or_l (eqb (entry_s d) k) (eqb (entry_t d) k) (same (entry_s d) k e))
        (λ e. or_r (eqb (entry_s d) k) (eqb (entry_t d) k) (same (entry_t d) k e)) w))))
      where
        same : (a b : ℕ) → a ≡ b → T (eqb a b)
        same a b e = subst (λ z. T (eqb a z)) e (eqb_refl a)

    miss : (f k : ℕ) → f < G.m → N f ≡ true → (entry_s f ≡ k) ⊎ (entry_t f ≡ k) → raised N es k ≡ false
    miss f k lf a w = T_false (not_T (raised N es k) (λ t.
        let (d, m, s) = any_∈ (raises N k) es t in
        let inside = ∈_range G.m 0 (∈_keep M (range 0 G.m) m).0 in
        let absent = and_l (not (N d)) (eqb (entry_s d) k || eqb (entry_t d) k) s in
        clash d (omega (arith, inside.1)) (λ q. T_not (N d) absent (true_t (ap N q ∙ a))) (⊎_map (eqb→eq (entry_s d) k) (eqb→eq (entry_t d) k)
        (or_case (eqb (entry_s d) k) (eqb (entry_t d) k) (and_r (not (N d)) (eqb (entry_s d) k || eqb (entry_t d) k) s))) w))
      where
        clash : (d : ℕ) → d < G.m → d ≢ f → (entry_s d ≡ k) ⊎ (entry_t d ≡ k) → (entry_s f ≡ k) ⊎ (entry_t f ≡ k) → ⊥
        clash d l n (inl x) (inl y) = place_differs G.sv G.rank_s G.m d f l lf n (x ∙ sym y)
        clash d l n (inl x) (inr y) = omega (arith, place_below G.sv G.rank_s G.m d l)
        clash d l n (inr x) (inl y) = omega (arith, place_below G.sv G.rank_s G.m f lf)
        clash d l n (inr x) (inr y) = place_differs G.st G.rank_t G.m d f l lf n (omega arith)

    -- ---- and no other gives M a lower vote
    module _ (fit : Fit rs) (ws : List ℕ) (c : Choice rs ws) where
      nothing : (xs : List ℕ) (k : ℕ) → length xs ≡ length rs → ¬ (k < length rs) → get_or xs k 0 ≡ 0
      nothing xs k e n = get_or-eq_default xs 0 (omega arith)

      up : (d k : ℕ) → d < G.m → M d ≡ true → N d ≡ false → (entry_s d ≡ k) ⊎ (entry_t d ≡ k) → get_or ws k 0 ≤ get_or ours k 0
      up d k l a b w = by_cases (dec_lt k (length rs))
          (λ h. subst (λ z. get_or ws k 0 ≤ z)
          (sym (worst_is G N es rs k h ∙ ap (λ t. cond t (range_at rs k).high (range_at rs k).low) (hit d k l a b w))) (c.to k h))
          (λ n. omega (arith, nothing ws k c.each n))

      down : (f k : ℕ) → f < G.m → N f ≡ true → (entry_s f ≡ k) ⊎ (entry_t f ≡ k) → get_or ours k 0 ≤ get_or ws k 0
      down f k l a w = by_cases (dec_lt k (length rs))
          (λ h. subst (λ z. z ≤ get_or ws k 0)
          (sym (worst_is G N es rs k h ∙ ap (λ t. cond t (range_at rs k).high (range_at rs k).low) (miss f k l a w))) (c.from k h))
          (λ n. omega (arith, nothing ours k (worst_length G N es rs) n))

      pub worst_least : Matching G M → Matching G N → vote (ranked_by ours) M N ≤ℤ vote (ranked_by ws) M N
      worst_least p q = vote_falls G M N p q (λ e. get_or ws (entry_s e) 0) (λ e. get_or ws (entry_t e) 0) (λ e. get_or ours (entry_s e) 0) (λ e. get_or ours (entry_t e) 0)
          (λ e l. choice_placed G M N rs fit ws c (entry_s e)) (λ e l. choice_placed G M N rs fit ws c (entry_t e))
          (λ e l. choice_placed G M N rs fit ours (worst_choice_law G M N rs fit) (entry_s e)) (λ e l. choice_placed G M N rs fit ours (worst_choice_law G M N rs fit) (entry_t e))
          (record { own = λ d l a b. up d (entry_s d) l a b (inl refl); other = λ f l a b. down f (entry_s f) l a (inl refl) })
          (record { own = λ d l a b. up d (entry_t d) l a b (inr refl); other = λ f l a b. down f (entry_t f) l a (inr refl) })
