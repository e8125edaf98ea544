-- The search run by the checker on small instances: one run for each kind of hit, and why the order of the tests matters.
use Rattle.std.specs.Prelude.{ℕ, ◌≡◌, refl, Bool, true, false, List, [], ◌∷◌, length, get_or, eqb}
use Rattle.std.proofs.Math.Option.{none, some, or_else, Option-elim}
use Rattle.lists.specs.Sum.{count}
use Rattle.lists.specs.Keep.{any?}
use Rattle.lists.specs.First.{first, best}
use Rattle.model.specs.Instance.{Instance, deg}
use Rattle.theory_verdict.specs.LemmaX.{swapped}
use Rattle.theory_verdict.specs.Ends.{lose, gain}
use Rattle.theory_verdict.specs.Search.{direct, loop, path, arc, layer, trace, terminal, directs, alone_at, loop_at, path_at, levels, search}
use Rattle.theory_verdict.specs.Search.{still, levels', search', rival_edges}
use Rattle.theory_verdict.specs.Rival.{lid, rival_of}

-- edges by surveyor, stand, rank there and rank here; n nodes a side, quotas of 1; all edges are tied at the stands, or none
made : ℕ → Bool → List (ℕ × ℕ × ℕ × ℕ) → Instance
made n tied es = record {
  m = length es;
  ns = n;
  nt = n;
  sv = λ e. (get_or es e (0, 0, 0, 0)).0;
  st = λ e. (get_or es e (0, 0, 0, 0)).1;
  sh = λ e. 1;
  rank_s = λ e. (get_or es e (0, 0, 0, 0)).2;
  rank_t = λ e. (get_or es e (0, 0, 0, 0)).3;
  tied = λ e. tied;
  quota_s = λ v. 1;
  quota_t = λ v. 1;
}

set : List ℕ → ℕ → Bool
set es e = any? (eqb e) es

-- P4: one stand ties two surveyors, and with one of them it draws against the other: the edge is lost at its surveyor, and at the
-- stand it gives way
tie : Instance
tie = made 2 true ((0, 0, 1, 1) ∷ (1, 0, 1, 1) ∷ [])

tie_rival : rival_of tie (true ∷ false ∷ []) ≡ false ∷ true ∷ []
unfolding tie made rival_of rival_edges Option-elim swapped search directs alone_at levels loop_at path_at first best arc layer trace terminal or_else deg count
tie_rival = refl

-- it ties neither, and nobody has anything: an edge with room at both ends
ranked : Instance
ranked = made 2 false ((0, 0, 1, 1) ∷ (1, 0, 1, 2) ∷ [])

empty_beaten : search ranked (set []) lid 0 0 ≡ some (direct 0)
unfolding ranked made set search directs first or_else deg count
empty_beaten = refl

-- one edge keeps two others out: its two ends like it best, but the two nodes that were left out gain, so it is a draw
short : Instance
short = made 2 false ((0, 0, 1, 1) ∷ (0, 1, 2, 1) ∷ (1, 0, 1, 2) ∷ [])

path_drawn : search short (set (0 ∷ [])) lid 1 1 ≡ some (path (gain 1) 0 [] 0 (gain 2))
unfolding short made set search directs alone_at first best terminal or_else deg count
path_drawn = refl

-- two surveyors, two stands, and all of them prefer the pairs outside {0-0, 1-1}: a closed walk of two arcs
crossed : Instance
crossed = made 2 false ((0, 0, 2, 2) ∷ (1, 1, 2, 2) ∷ (0, 1, 1, 1) ∷ (1, 0, 1, 1) ∷ [])

crossed_beaten : search crossed (set (0 ∷ 1 ∷ [])) lid 0 2 ≡ some (loop 0 ((3, 1) ∷ (2, 0) ∷ []))
unfolding crossed made set search directs alone_at levels loop_at path_at first best arc layer trace terminal or_else deg count
crossed_beaten = refl

-- why closed walks come first: the alternating path from 0-0 round to 0-0 costs less than 0 as well, and it would remove 0-0 twice
crossed_not_simple : path_at crossed (set (0 ∷ 1 ∷ [])) lid 0 1 ≡ some (path lose 0 ((3, 1) ∷ (2, 0) ∷ []) 0 lose)
unfolding crossed made set path_at first best arc layer trace terminal deg count
crossed_not_simple = refl

-- the other plan is strong: the search below 1 stops long before 60 levels, and finds nothing
crossed_stop : search' crossed (set (2 ∷ 3 ∷ [])) lid 1 60 ≡ none
unfolding crossed made set search' directs alone_at levels' still loop_at path_at first best arc layer trace terminal or_else deg count
crossed_stop = refl
