-- What the code writes where a surveyor leaves, by the places of the roster's file.
use Rattle.std.specs.Prelude.{ℕ, ◌+◌, ◌-◌, List}
use Rattle.roster_positions.specs.Tables.{lists_end}
use Rattle.roster_parts.specs.Rankings.{rankings_from}
use Rattle.roster_parts.specs.Gives.{roster_of}
use Rattle.roster_leave.specs.LeftParts.{ranking_left, nodes_left, lists_left}

abbrev pub rankings_left : List ℕ → (start n s : ℕ) → List ℕ
rankings_left f start n s = rankings_from (λ j. ranking_left s) f n 1 start

-- the places of the leaver's list, of the one behind it, and behind all lists
abbrev pub mine_at : List ℕ → (ns nt s : ℕ) → ℕ
mine_at f ns nt s = lists_end f (s - 1) (ns + nt + 4)

abbrev pub next_at : List ℕ → (ns nt s : ℕ) → ℕ
next_at f ns nt s = lists_end f 1 (mine_at f ns nt s)

abbrev pub end_at : List ℕ → (ns nt s : ℕ) → ℕ
end_at f ns nt s = lists_end f (ns - s) (next_at f ns nt s)

abbrev pub left_bytes : List ℕ → (ns nt s : ℕ) → List ℕ
left_bytes f ns nt s = roster_of ns nt (nodes_left f (ns + nt + 2) s)
    (lists_left f (ns + nt + 4) (mine_at f ns nt s) (next_at f ns nt s) (end_at f ns nt s)) (rankings_left f (end_at f ns nt s + 2) nt s)
