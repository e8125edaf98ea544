-- What the code writes of two rosters side by side, by the places of their files.
use Rattle.std.specs.Prelude.{ℕ, ◌+◌, ◌-◌, ◌<◌, ◌≡◌, List, [], ◌∷◌, ◌++◌, map, length, take, drop, get_or}
use Rattle.std.proofs.Common.{arith, sym, ap, ◌∙◌, subst, ext_get_or}
use Rattle.lists.specs.Sum.{sum, range}
use Rattle.lists.specs.Ranges.{map_at, range_at_law}
use Rattle.model.specs.Limits.{roster_size}
use Rattle.arrays.specs.Filled.{Made}
use Rattle.roster_positions.specs.Tables.{lists_end}
use Rattle.roster_parts.specs.Gives.{roster_of}
use Rattle.roster_parts.specs.Mapped.{lists_under, rankings_under}

-- a table that moves each number up to 32 by n
unfoldable pub up_table : ℕ → List ℕ
up_table n = map (λ t. n + t) (range 0 33)

pub up_at : (n t : ℕ) → t < 33 → get_or (up_table n) t 0 ≡ n + t
unfolding up_table
up_at n t h = map_at (λ t. n + t) (range 0 33) t 0 0 h ∙ ap (λ k. n + k) (range_at_law 33 0 t h ∙ zero_plus t)
  where
    zero_plus : (t : ℕ) → 0 + t ≡ t
    zero_plus t = omega arith

-- an array that a loop has filled so
pub up_made : (n : ℕ) (o : List ℕ) → length o ≡ 33 → Made 0 o (λ t. n + t) 33 → o ≡ up_table n
unfolding up_table
up_made n o l h = ext_get_or 0 o (up_table n) l (λ i k. let m : i < 33 = subst (λ z. i < z) l k in h i m ∙ sym (up_at n i m))

-- the sum of so many quotas from a place on
abbrev pub quotas_from : List ℕ → (at n : ℕ) → ℕ
quotas_from f at n = sum (λ q. q) (take n (drop at f))

abbrev pub nodes_beside : List ℕ → (ns nt : ℕ) → List ℕ → (ms mt : ℕ) → List ℕ
nodes_beside f ns nt g ms mt = (((((((ns + ms) ∷ []) ++ take ns (drop 1 f)) ++ take ms (drop 1 g)) ++ (nt + mt) ∷ []) ++ take nt (drop (ns + 2) f))
    ++ take mt (drop (ms + 2) g))

abbrev pub lists_beside : List ℕ → (start end : ℕ) → List ℕ → (place ms : ℕ) → (table : List ℕ) → List ℕ
lists_beside f start end g place ms t = take (end - start) (drop start f) ++ lists_under t g ms place

abbrev pub rankings_beside : List ℕ → (start : ℕ) → List ℕ → (place mt : ℕ) → (table : List ℕ) → List ℕ
rankings_beside f start g place mt t = take roster_size (drop start f) ++ rankings_under t g mt place

-- the place behind the surveyors' lists
abbrev pub end_at : List ℕ → (ns nt : ℕ) → ℕ
end_at f ns nt = lists_end f ns (ns + nt + 4)

abbrev pub beside_bytes : List ℕ → (ns nt : ℕ) → List ℕ → (ms mt : ℕ) → List ℕ
beside_bytes f ns nt g ms mt = roster_of (ns + ms) (nt + mt) (nodes_beside f ns nt g ms mt)
    (lists_beside f (ns + nt + 4) (end_at f ns nt) g (ms + mt + 4) ms (up_table nt))
    (rankings_beside f (end_at f ns nt + 2) g (end_at g ms mt + 2) mt (up_table ns))
