-- Rankings not yet settled: request W-211 of document 02. A range of ranks for each list entry, the vote under a choice of ranks within the
-- ranges, and the least vote over all such choices. Which choice is handed back is open; what holds of it is the record `Least`.
use Rattle.std.specs.Prelude.{ℕ, suc, ◌+◌, ◌-◌, ◌≤◌, ◌<◌, ◌≡◌, cond, ◌||◌, List, ◌++◌, map, length, get_or, replicate, eqb, ltb, ℤ, ◌≤ℤ◌}
use Rattle.lists.specs.Sum.{sum, up_to, range}
use Rattle.lists.specs.Keep.{gather}
use Rattle.model.specs.Limits.{rank_limit}
use Rattle.model.specs.Reading.{Reading, accepted, refused, two_bytes, read_each, whole}
use Rattle.model.specs.Roster.{Ranking, Roster, list_s, list_t, entries, total_s, total_t}
use Rattle.model.specs.Edges.{position, instance_of}
use Rattle.model.specs.Instance.{Instance}
use Rattle.model.specs.Plans.{Plan, vote_of}
use Rattle.model.specs.PlanFile.{read_plan}

-- "a rank is known only from a low to a high number"
pub record Range : Type 0 where
  pub low : ℕ
  pub high : ℕ

-- "It refuses a range with low 0, low above high or high above 32 (21 ..)."
abbrev pub range_check : ℕ × ℕ → ℕ
range_check w = cond (eqb w.0 0 || (ltb w.1 w.0 || ltb rank_limit w.1)) 21 0

-- the list entries of a roster, on both sides
abbrev pub entry_count : Roster → ℕ
entry_count r = total_s r.lists_s + total_t r.lists_t

-- the range of two bytes, low and high
abbrev pub range_of : ℕ × ℕ → Range
range_of w = record { low = w.0; high = w.1 }

-- the ranges of a file's reading, or its refusal
abbrev pub ranges_in : Reading (List (ℕ × ℕ)) → Reading (List Range)
ranges_in (accepted ws) = accepted (map range_of ws)
ranges_in (refused n) = refused n

-- "a file of two bytes, low and high, for each list entry in the roster's order, and nothing after them": a range is one field; 21 "at the
-- entry, after 1 and before 9"
unfoldable pub read_ranges : Roster → List ℕ → Reading (List Range)
read_ranges r bs = ranges_in (whole (read_each {S = Unit {0}} two_bytes (λ s w. range_check w) (λ s w. s) (entry_count r) tt bs))

-- ---- the roster's order: the surveyors' lists, then the stands', each from its first entry on
-- where the entry of surveyor i's list stands, that names stand j in shift k: behind the lists before it and the entries before it in its own
unfoldable pub place_s : Roster → (i j k : ℕ) → ℕ
place_s r i j k = sum (λ a. length (list_s r a)) (up_to i) + (position (record { number = suc j; shift = k }) (list_s r i) - 1)

-- the same of stand j's list, its tied entries behind the strict ones
unfoldable pub place_t : Roster → (i j k : ℕ) → ℕ
place_t r i j k = total_s r.lists_s
    + (sum (λ b. length (entries (list_t r b))) (up_to j) + (position (record { number = suc i; shift = k }) (entries (list_t r j)) - 1))

-- the roster with other ranks, one for each list entry; its pairs, ends and quotas stay
unfoldable pub ranked : Roster → List ℕ → Instance
ranked r ws = let G = instance_of r in record {
  m = G.m;
  ns = G.ns;
  nt = G.nt;
  sv = G.sv;
  st = G.st;
  sh = G.sh;
  rank_s = λ e. get_or ws (place_s r (G.sv e) (G.st e) (G.sh e)) 0;
  rank_t = λ e. get_or ws (place_t r (G.sv e) (G.st e) (G.sh e)) 0;
  tied = G.tied;
  quota_s = G.quota_s;
  quota_t = G.quota_t;
}

-- ---- "any choice of ranks within them (..), equal ranks included": one rank for each range
abbrev pub range_at : List Range → ℕ → Range
range_at rs k = get_or rs k (record { low = 0; high = 0 })

-- a choice of ranks within the ranges: one for each, from its low to its high
pub record Choice (rs : List Range) (ws : List ℕ) : Type 0 where
  pub each : length ws ≡ length rs
  pub from : (k : ℕ) → k < length rs → (range_at rs k).low ≤ get_or ws k 0
  pub to : (k : ℕ) → k < length rs → get_or ws k 0 ≤ (range_at rs k).high

-- "the least vote of the first against the second that any choice of ranks within them allows, (..) and one choice that reaches it"
pub record Least (r : Roster) (rs : List Range) (M N : Plan) (v : ℤ) (ws : List ℕ) : Type 0 where
  pub choice : Choice rs ws
  pub reached : vote_of (ranked r ws) M N ≡ v
  pub least : (other : List ℕ) → Choice rs other → v ≤ℤ vote_of (ranked r other) M N

-- ---- "With low and high both the rank in the roster": the ranks of the roster, in its order
abbrev pub ranking_ranks : Ranking → List ℕ
ranking_ranks R = range 1 (length R.strict) ++ replicate (length R.tied) (suc (length R.strict))

-- the roster's ranks, entry by entry: the surveyors' lists, then the stands'
unfoldable pub roster_ranks : Roster → List ℕ
roster_ranks r = gather (λ xs. range 1 (length xs)) r.lists_s ++ gather ranking_ranks r.lists_t

-- a range that leaves no choice
abbrev pub settled_at : ℕ → Range
settled_at n = record { low = n; high = n }

-- ---- the question: two plans and the ranges. "The plans are checked first, then the ranges left to right."
pub record Question : Type 0 where
  pub first : Plan
  pub second : Plan
  pub ranges : List Range

-- the question, by the reading of the ranges: with the two plans, or refused
abbrev pub ranges_judged : Plan → Plan → Reading (List Range) → Reading Question
ranges_judged M N (accepted rs) = accepted (record { first = M; second = N; ranges = rs })
ranges_judged M N (refused n) = refused n

-- the question, by the reading of the second plan: the ranges are read where it is accepted
abbrev pub second_judged : Roster → Plan → Reading Plan → (ranges : List ℕ) → Reading Question
second_judged r M (accepted N) ranges = ranges_judged M N (read_ranges r ranges)
second_judged r M (refused n) ranges = refused n

-- the question, by the reading of the first plan: the second is read where it is accepted
abbrev pub first_judged : Roster → Reading Plan → (second ranges : List ℕ) → Reading Question
first_judged r (accepted M) second ranges = second_judged r M (read_plan (instance_of r) second) ranges
first_judged r (refused n) second ranges = refused n

-- the question in three files: first plan, second plan, ranges; or the refusal met first
unfoldable pub read_question : Roster → (first second ranges : List ℕ) → Reading Question
read_question r a b c = first_judged r (read_plan (instance_of r) a) b c
