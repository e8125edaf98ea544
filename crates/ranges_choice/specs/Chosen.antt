-- The ranks chosen are the worst choice, and the ranks of both plans' edges are taken from it.
use Rattle.std.specs.Prelude.{ℕ, ◌+◌, ◌*◌, ◌≤◌, ◌<◌, ◌≡◌, Bool, false, not, cond, ◌&&◌, ◌||◌, List, take, length, eqb}
use Rattle.std.proofs.Common.{arith, sym, ap, ap₂, ◌∙◌, subst, ⊎_elim, get_or-take, length-take-le, eqb→eq}
use Rattle.std.proofs.Math.Decide.{dec_lt}
use Rattle.std.proofs.Math.Logic.{by_cases}
use Rattle.std.proofs.Math.ListN.{get_or-eq_default}
use Rattle.std.proofs.Math.Dec.{not_T}
use Rattle.lists.specs.Test.{T_false, and_r, or_case}
use Rattle.lists.specs.Sum.{◌∈◌}
use Rattle.lists.specs.Keep.{any?, any_cong, any_∈, All-getD, All-∈}
use Rattle.model.specs.Roster.{elem}
use Rattle.model.specs.Instance.{Instance}
use Rattle.arrays.specs.ArrayInstance.{at}
use Rattle.theory_ranges.specs.Places.{place_in, place_below}
use Rattle.theory_ranges.specs.Worst.{entry_s, entry_t, raises, raised, worst_by, worst_length, worst_is}
use Rattle.theory_ranges.specs.RangesFile.{ranges_of, Taken}
use Rattle.ranges_choice.specs.declared.Choice.{Choice}
use Rattle.ranges_choice.specs.Choosing.{EdgeList, Lows, hits, Raised}
use Rattle.ranges_choice.specs.Reranked.{BothRanked}

-- an array that shows a list: its numbers in front, 0 behind them
abbrev pub ShowsList : List ℕ → List ℕ → Type 0
ShowsList xs o = (k : ℕ) → at o k ≡ at xs k

-- an edge of either list has the choice's rank at its place, any other edge the rank that it had
abbrev pub SideRanks : (m : ℕ) (place rank : ℕ → ℕ) (ps qs choice o : List ℕ) → Type 0
SideRanks m place rank ps qs choice o = (e : ℕ) → e < m → at o e ≡ cond (elem e qs) (at choice (place e)) (cond (elem e ps) (at choice (place e)) (rank e))

-- at both ends the edges of either list have the ranks chosen for their entries, and every other edge the rank that it had
pub record Ranked (G : Instance) (ps qs : List ℕ) (r : Choice) : Type 0 where
  pub at_s : SideRanks G.m (entry_s G) G.rank_s ps qs r.ranks r.rank_s
  pub at_t : SideRanks G.m (entry_t G) G.rank_t ps qs r.ranks r.rank_t

pub record Chosen (G : Instance) (N : ℕ → Bool) (ps qs ranges : List ℕ) (r : Choice) : Type 0 where
  pub size : length r.ranks ≡ 2048
  pub worst : ShowsList (worst_by G N ps (ranges_of (2 * G.m) ranges)) r.ranks
  pub ranked : Ranked G ps qs r

-- the places of all edges, on either side
abbrev pub PlacedAs : (m : ℕ) (place : ℕ → ℕ) → List ℕ → Type 0
PlacedAs m place o = (e : ℕ) → e < m → at o e ≡ place e

pub listed_below : (m n : ℕ) (es : List ℕ) → EdgeList m n es → (e : ℕ) → e ∈ take n es → e < m
listed_below m n es E e k = All-∈ (λ e. e < m) (take n es) (All-getD (λ e. e < m) 0 (take n es) (λ i h.
    let j : i < n = omega (arith, length-take-le n es E.there) in subst (λ e. e < m) (sym (get_or-take n es i 0 j)) (E.below i j))) e k

module _ (G : Instance) (N : ℕ → Bool) (n : ℕ) (es ranges s t : List ℕ) (E : EdgeList G.m n es)
    (S : PlacedAs G.m (place_in G.m G.sv G.rank_s) s) (T : PlacedAs G.m (place_in G.m G.st G.rank_t) t) where
  -- the edges raise the places of their entries
  raised_as : (k : ℕ) → any? (hits (at s) (λ e. G.m + at t e) N k) (take n es) ≡ raised G N (take n es) k
  raised_as k = any_cong (hits (at s) (λ e. G.m + at t e) N k) (raises G N k) (take n es) (λ e m.
      let h = listed_below G.m n es E e m in ap₂ (λ a b. not (N e) && (eqb a k || eqb (G.m + b) k)) (S e h) (T e h))

  -- and none behind all entries
  raised_far : (k : ℕ) → 2 * G.m ≤ k → raised G N (take n es) k ≡ false
  raised_far k far = T_false (not_T (raised G N (take n es) k) (λ t.
      let (e, m, s) = any_∈ (raises G N k) (take n es) t in
      let below = listed_below G.m n es E e m in
      ⊎_elim
      (λ u. let q = eqb→eq (entry_s G e) k u in omega (arith, place_below G.sv G.rank_s G.m e below))
      (λ u. let q = eqb→eq (entry_t G e) k u in omega (arith, place_below G.st G.rank_t G.m e below))
      (or_case (eqb (entry_s G e) k) (eqb (entry_t G e) k) (and_r (not (N e)) (eqb (entry_s G e) k || eqb (entry_t G e) k) s))))

  -- low, and then raised, is the worst choice
  pub chosen : (low o : List ℕ) → Taken (2 * G.m) ranges → Lows (2 * G.m) ranges low
      → Raised (at s) (λ e. G.m + at t e) N (take n es) ranges low o → ShowsList (worst_by G N (take n es) (ranges_of (2 * G.m) ranges)) o
  chosen low o T L (z, h) k = by_cases (dec_lt k (2 * G.m))
      (λ l. h k ∙ ap (λ b. cond b (at ranges (2 * k + 1)) (at low k)) (raised_as k)
      ∙ ap₂ (λ a b. cond (raised G N (take n es) k) a b) (sym (T.high k l)) (L.low k l ∙ sym (T.low k l))
      ∙ sym (worst_is G N (take n es) (ranges_of (2 * G.m) ranges) k (omega (arith, T.each))))
      (λ m. h k ∙ ap (λ b. cond b (at ranges (2 * k + 1)) (at low k)) (raised_as k ∙ raised_far k (omega arith)) ∙ L.behind k (omega arith)
      ∙ sym (get_or-eq_default (worst_by G N (take n es) (ranges_of (2 * G.m) ranges)) 0
      (omega (arith, worst_length G N (take n es) (ranges_of (2 * G.m) ranges), T.each))))

-- the ranks of one side
pub side_ranks : (m from : ℕ) (place : ℕ → ℕ) (rank ps qs choice s o : List ℕ) → ((e : ℕ) → e < m → from + at s e ≡ place e)
    → BothRanked (λ e. from + at s e) ps qs choice rank o → SideRanks m place (at rank) ps qs choice o
side_ranks m from place rank ps qs choice s o S B e h =
    B e ∙ ap (λ k. cond (elem e qs) (at choice k) (cond (elem e ps) (at choice k) (at rank e))) (S e h)
