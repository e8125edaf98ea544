-- W-211, over the edges of an instance: the choice that reaches the least vote of M against N. At both ends of an edge that M has and N lacks it
-- takes the high rank, everywhere else the low one; so an edge in both plans, which faces itself, has its low rank, and could have any.
use Rattle.std.specs.Prelude.{ℕ, zero, suc, ◌+◌, ◌≤◌, ◌<◌, ◌≡◌, Bool, not, cond, ◌&&◌, ◌||◌, List, map, length, get_or, eqb}
use Rattle.std.proofs.Common.{arith, zero-add, sym, ap, ◌∙◌, subst}
use Rattle.std.proofs.Math.Decide.{dec_lt}
use Rattle.std.proofs.Math.Logic.{by_cases}
use Rattle.std.proofs.Math.ListN.{length-map, get_or-eq_default}
use Rattle.lists.specs.Test.{if-ind}
use Rattle.lists.specs.Sum.{range, range_length}
use Rattle.lists.specs.Keep.{any?}
use Rattle.lists.specs.Ranges.{map_at}
use Rattle.model.specs.Limits.{empty_rank, rank_limit}
use Rattle.model.specs.Instance.{Instance}
use Rattle.model.specs.PlanFile.{edges_in}
use Rattle.model.specs.Ranges.{Range, range_at, Choice}
use Rattle.theory_ranges.specs.Falls.{with_ranks}
use Rattle.theory_ranges.specs.Places.{place_in}

-- ranges that a file may have
abbrev pub Fit : List Range → Type 0
Fit rs = (k : ℕ) → k < length rs → ((range_at rs k).low ≤ (range_at rs k).high) × ((range_at rs k).high ≤ rank_limit)

range_at_law : (i n j : ℕ) → j < n → get_or (range i n) j 0 ≡ i + j
range_at_law i zero j h = absurd (omega arith)
range_at_law i (suc n) zero h = omega arith
range_at_law i (suc n) (suc j) h = omega (arith, range_at_law (suc i) n j (omega arith))

-- a number at each place below n
pub made_at : (f : ℕ → ℕ) (n k : ℕ) → k < n → get_or (map f (range 0 n)) k 0 ≡ f k
made_at f n k h = map_at f (range 0 n) k 0 0 (omega (arith, range_length 0 n)) ∙ ap f (range_at_law 0 n k h ∙ zero-add k)

module _ (G : Instance) where
  -- where an edge's two entries stand in the roster's order: the surveyors' entries, then the stands'
  abbrev pub entry_s : ℕ → ℕ
  entry_s e = place_in G.m G.sv G.rank_s e

  -- where an edge's entry in its stand's list stands: behind the surveyors' entries
  abbrev pub entry_t : ℕ → ℕ
  entry_t e = G.m + place_in G.m G.st G.rank_t e

  -- the instance with a rank for each place
  abbrev pub ranked_by : List ℕ → Instance
  ranked_by ws = with_ranks G (λ e. get_or ws (entry_s e) 0) (λ e. get_or ws (entry_t e) 0)

  -- the edge is not in N, and one of its entries stands at k
  abbrev pub raises : (ℕ → Bool) → ℕ → ℕ → Bool
  raises N k e = not (N e) && (eqb (entry_s e) k || eqb (entry_t e) k)

  -- by M's edges as a list
  abbrev pub raised : (N : ℕ → Bool) (es : List ℕ) → ℕ → Bool
  raised N es k = any? (raises N k) es

  abbrev pub worst_at : (N : ℕ → Bool) (es : List ℕ) → List Range → ℕ → ℕ
  worst_at N es rs k = cond (raised N es k) (range_at rs k).high (range_at rs k).low

  -- a rank for each range: the high one at both entries of each edge of the list that N lacks, the low one everywhere else
  unfoldable pub worst_by : (N : ℕ → Bool) (es : List ℕ) → List Range → List ℕ
  worst_by N es rs = map (worst_at N es rs) (range 0 (length rs))

  -- the same for the edges of a set M: the choice that reaches the least vote
  abbrev pub worst_choice : (M N : ℕ → Bool) → List Range → List ℕ
  worst_choice M N rs = worst_by N (edges_in G.m M) rs

  module _ (N : ℕ → Bool) (es : List ℕ) (rs : List Range) where
    -- it has a rank for each range
    pub worst_length : length (worst_by N es rs) ≡ length rs
    unfolding worst_by
    worst_length = length-map (range 0 (length rs)) (worst_at N es rs) ∙ range_length 0 (length rs)

    -- and at each place the rank that is taken there
    pub worst_is : (k : ℕ) → k < length rs → get_or (worst_by N es rs) k 0 ≡ worst_at N es rs k
    unfolding worst_by
    worst_is k h = made_at (worst_at N es rs) (length rs) k h

  module _ (M N : ℕ → Bool) (rs : List Range) where
    abbrev es : List ℕ
    es = edges_in G.m M

    abbrev ours : List ℕ
    ours = worst_choice M N rs

    -- ---- it is a choice within the ranges
    pub worst_choice_law : Fit rs → Choice rs ours
    worst_choice_law fit = record {
      each = worst_length N es rs;
      from = λ k h. subst (λ z. (range_at rs k).low ≤ z) (sym (worst_is N es rs k h))
          (if-ind (λ z. (range_at rs k).low ≤ z) (raised N es k) (λ t. (fit k h).0) (λ t. omega arith));
      to = λ k h. subst (λ z. z ≤ (range_at rs k).high) (sym (worst_is N es rs k h))
          (if-ind (λ z. z ≤ (range_at rs k).high) (raised N es k) (λ t. omega arith) (λ t. (fit k h).0));
    }

    -- ranks of a choice, at any place
    pub choice_placed : Fit rs → (ws : List ℕ) → Choice rs ws → (k : ℕ) → get_or ws k 0 < empty_rank
    choice_placed fit ws c k = by_cases (dec_lt k (length rs))
        (λ h. omega (arith, c.to k h, (fit k h).1))
        (λ n. subst (λ z. z < empty_rank) (sym (get_or-eq_default ws 0 (omega (arith, c.each)))) (omega arith))
