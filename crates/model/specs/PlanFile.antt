-- Plan bytes, read against the instance of a roster, whose edges differ in their pairs and are numbered in the pairs' order, and
-- written: "a count byte 0 to 64, then" three bytes a pair (surveyor, stand, shift), ascending by these. "Every pair is in the roster and
-- no quota is passed."
use Rattle.std.specs.Prelude.{ℕ, suc, Bool, cond, ◌&&◌, ◌||◌, List, [], ◌∷◌, ◌++◌, map, length, eqb, leb, ltb}
use Rattle.lists.specs.Test.{bit}
use Rattle.lists.specs.Sum.{sum, range}
use Rattle.lists.specs.Keep.{keep, gather}
use Rattle.lists.specs.Search.{low}
use Rattle.model.specs.Limits.{plan_limit}
use Rattle.model.specs.Reading.{Reading, accepted, refused, ◌then◌, two_bytes, read_each, whole}
use Rattle.model.specs.RosterFile.{read_count}
use Rattle.model.specs.Roster.{elem}
use Rattle.model.specs.Instance.{Instance, Side, surveyors, stands}
use Rattle.model.specs.Plans.{Plan, on}

-- a pair's three numbers, as files have them
pub record Named : Type 0 where
  pub surveyor : ℕ
  pub stand : ℕ
  pub shift : ℕ

-- the numbers by which files name an edge: its surveyor and its stand counted from 1, and its shift
abbrev pub name_of : Instance → ℕ → Named
name_of G e = record { surveyor = suc (G.sv e); stand = suc (G.st e); shift = G.sh e }

-- the same surveyor, stand and shift
abbrev pub same_name : Named → Named → Bool
same_name p q = eqb p.surveyor q.surveyor && (eqb p.stand q.stand && eqb p.shift q.shift)

-- ---- how a pair stands in a file: "a plan pair, with its shift is one field"
pub record PairLayout : Type 0 where
  pub field : List ℕ → Reading (Named × List ℕ)
  pub bytes : Named → List ℕ

-- a pair's field in a file with shifts: three bytes, else refusal 1
abbrev pub three_bytes : List ℕ → Reading (Named × List ℕ)
three_bytes [] = refused 1
three_bytes (x ∷ []) = refused 1
three_bytes (x ∷ y ∷ []) = refused 1
three_bytes (x ∷ y ∷ z ∷ bs) = accepted (record { surveyor = x; stand = y; shift = z }, bs)

-- a pair in a file with shifts: surveyor, stand, shift
abbrev pub shifted_pair : PairLayout
shifted_pair = record { field = three_bytes; bytes = λ p. p.surveyor ∷ p.stand ∷ p.shift ∷ [] }

-- "an old one with shift 1"
abbrev pub plain_pair : PairLayout
plain_pair = record {
  field = λ bs. two_bytes bs then (λ w rest. accepted (record { surveyor = w.0; stand = w.1; shift = 1 }, rest));
  bytes = λ p. p.surveyor ∷ p.stand ∷ [];
}

-- the edges of a plan, ascending; the plan of some edges
abbrev pub edges_in : ℕ → (ℕ → Bool) → List ℕ
edges_in m p = keep p (range 0 m)

-- the plan of those of m edges that pass
abbrev pub plan_of : ℕ → (ℕ → Bool) → Plan
plan_of m p = map p (range 0 m)

-- ---- written
abbrev pub pair_list_by : PairLayout → Instance → List ℕ → List ℕ
pair_list_by L G es = gather (λ e. L.bytes (name_of G e)) es

-- a plan's file in either layout: how many pairs, then the pairs ascending
unfoldable pub plan_bytes_by : PairLayout → Instance → Plan → List ℕ
plan_bytes_by L G M = length (edges_in G.m (on M)) ∷ pair_list_by L G (edges_in G.m (on M))

-- an edge's three bytes in a plan file
abbrev pub pair_bytes : Instance → ℕ → List ℕ
pair_bytes G e = shifted_pair.bytes (name_of G e)

-- the bytes of some edges, three each, without a count
abbrev pub pair_list : Instance → List ℕ → List ℕ
pair_list G es = pair_list_by shifted_pair G es

-- a plan's file, with shifts
abbrev pub plan_bytes : Instance → Plan → List ℕ
plan_bytes G M = plan_bytes_by shifted_pair G M

-- ---- read
-- the edge that three numbers name; m if there is none
unfoldable pub edge_of_pair : Instance → Named → ℕ
edge_of_pair G p = low (λ e. same_name (name_of G e) p) G.m

-- the edges already read fill the quota of e's end
abbrev pub full : Side → List ℕ → ℕ → Bool
full K seen e = leb (K.quota (K.end e)) (sum (λ d. bit (eqb (K.end d) (K.end e))) seen)

-- the edges read so far, and the lowest edge that may come next: the one after the last, as edges are numbered in the pairs' order
pub record Pairs : Type 0 where
  pub seen : List ℕ
  pub from : ℕ

-- "10 a plan pair not in the roster" (a shift outside 1 to 3 is in none), "11 plan pairs not strictly ascending", "12 a pair that takes a node past its quota"
abbrev pub pair_check : Instance → Pairs → Named → ℕ
pair_check G s p = cond (leb G.m (edge_of_pair G p)) 10 (cond (ltb (edge_of_pair G p) s.from) 11
    (cond (full (surveyors G) s.seen (edge_of_pair G p) || full (stands G) s.seen (edge_of_pair G p)) 12 0))

-- one pair more is read: its edge is seen, and the next must come after it
abbrev pub with_pair : Instance → Pairs → Named → Pairs
with_pair G s p = record { seen = s.seen ++ edge_of_pair G p ∷ []; from = suc (edge_of_pair G p) }

-- "a pair being one field"
abbrev pub read_pairs_by : PairLayout → Instance → ℕ → List ℕ → Reading (List Named × List ℕ)
read_pairs_by L G n bs = read_each L.field (pair_check G) (with_pair G) n (record { seen = []; from = 0 }) bs

-- the plan of the edges that some pairs name
abbrev pub plan_of_pairs : Instance → List Named → Plan
plan_of_pairs G ps = plan_of G.m (λ e. elem e (map (edge_of_pair G) ps))

-- a plan file of either layout, read against an instance: count, pairs, nothing after them
unfoldable pub read_plan_by : PairLayout → Instance → List ℕ → Reading Plan
read_plan_by L G bs = whole (read_count plan_limit bs then read_pairs_by L G then (λ ps rest. accepted (plan_of_pairs G ps, rest)))

-- a plan file with shifts, read against an instance
abbrev pub read_plan : Instance → List ℕ → Reading Plan
read_plan G bs = read_plan_by shifted_pair G bs
