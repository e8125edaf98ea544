-- Blocking pairs: section "Comparison, blocking, desk" of document 01, and request W-201 of document 02, which settles the pair that is named.
use Rattle.std.specs.Prelude.{ℕ, Bool, not, ◌&&◌, ◌||◌, eqb, ltb}
use Rattle.lists.specs.Sum.{up_to}
use Rattle.lists.specs.Keep.{any?}
use Rattle.lists.specs.Search.{low}
use Rattle.model.specs.Instance.{Instance, Side, surveyors, stands, deg}

-- "A blocking pair is not in the plan, and each end has an unfilled quota or a strictly worse pair in the plan."
abbrev pub yields : Side → (ℕ → Bool) → ℕ → Bool
yields K M e = ltb (deg K M (K.end e)) (K.quota (K.end e))
    || any? (λ d. M d && (eqb (K.end d) (K.end e) && ltb (K.rank e) (K.rank d))) (up_to K.m)

-- e is a blocking pair: an edge that is not in the plan, and both of its ends yield to it
unfoldable pub blocks : Instance → (ℕ → Bool) → ℕ → Bool
blocks G M e = ltb e G.m && (not (M e) && (yields (surveyors G) M e && yields (stands G) M e))

-- the plan has a blocking pair
unfoldable pub some_blocks : Instance → (ℕ → Bool) → Bool
some_blocks G M = any? (blocks G M) (up_to G.m)

-- ---- W-201: "The blocking pair is now the first: the lowest surveyor number that has one, and of that surveyor's blocking pairs the one
-- best in the surveyor's list."
-- d goes before e: a lower surveyor, or the same one, who ranks d better
abbrev pub above : (sv rank : ℕ → ℕ) → ℕ → ℕ → Bool
above sv rank d e = ltb (sv d) (sv e) || (eqb (sv d) (sv e) && ltb (rank d) (rank e))

-- of the edges below m that pass, the first: none that passes goes before it; m if none passes
abbrev pub is_top : (sv rank : ℕ → ℕ) → ℕ → (ℕ → Bool) → ℕ → Bool
is_top sv rank m p e = p e && not (any? (λ d. p d && above sv rank d e) (up_to m))

-- the edge that passes and comes first: of the lowest surveyor, the one that this surveyor ranks best; m if none passes
abbrev pub top_of : (sv rank : ℕ → ℕ) → ℕ → (ℕ → Bool) → ℕ
top_of sv rank m p = low (is_top sv rank m p) m

-- the blocking pair that is shown; m if there is none
unfoldable pub top_blocking : Instance → (ℕ → Bool) → ℕ
top_blocking G M = top_of G.sv G.rank_s G.m (blocks G M)
