-- Who faced whom, W-208 of document 02: for each place of a node the two ranks set against each other, in a pairing that reaches the node's vote.
use Rattle.std.specs.Prelude.{ℕ, Bool, false, not, cond, ◌&&◌, ◌||◌, List, [], ◌∷◌, ◌++◌, map, ltb, eqb}
use Rattle.std.specs.Int.Signed.{le_z}
use Rattle.lists.specs.Sum.{range}
use Rattle.lists.specs.Keep.{keep, gather}
use Rattle.model.specs.Instance.{Instance, Side, surveyors, stands}
use Rattle.model.specs.Vote.{Place, place_rank, Pairing, valid_pairings, sumℤ, place_vote, node_vote}

-- "for each place, the two ranks set against each other", "own rank first"
abbrev pub rank_pair : (ℕ → ℕ) → Place × Place → ℕ × ℕ
rank_pair rank (p, q) = (place_rank rank p, place_rank rank q)

-- one rank pair comes before another: by own rank, then by the other
abbrev pub sooner : ℕ × ℕ → ℕ × ℕ → Bool
sooner (a, b) (c, d) = ltb a c || (eqb a c && ltb b d)

-- "ascending list of rank pairs": one pair put into such a list, and a pairing's whole list
abbrev pub put_in : ℕ × ℕ → List (ℕ × ℕ) → List (ℕ × ℕ)
put_in c [] = c ∷ []
put_in c (d ∷ ds) = cond (sooner d c) (d ∷ put_in c ds) (c ∷ d ∷ ds)

-- a list of rank pairs, put in ascending order
abbrev pub in_order : List (ℕ × ℕ) → List (ℕ × ℕ)
in_order [] = []
in_order (c ∷ cs) = put_in c (in_order cs)

-- a pairing's rank pairs, ascending
abbrev pub rank_pairs : (ℕ → ℕ) → Pairing → List (ℕ × ℕ)
rank_pairs rank r = in_order (map (rank_pair rank) r)

-- "smallest entry by entry": smaller at the first entry where two lists differ
abbrev pub smaller : List (ℕ × ℕ) → List (ℕ × ℕ) → Bool
smaller [] ds = false
smaller (c ∷ cs) [] = false
smaller (c ∷ cs) (d ∷ ds) = sooner c d || (not (sooner d c) && smaller cs ds)

-- the smallest of a list of rank pairs and some others
abbrev pub smallest : List (ℕ × ℕ) → List (List (ℕ × ℕ)) → List (ℕ × ℕ)
smallest l [] = l
smallest l (k ∷ ks) = smallest (cond (smaller k l) k l) ks

-- of no list at all it is the empty one; two plans within the quotas always have a pairing that reaches the vote (theory_votes,
-- facing-reaches), so for plans that never matters
abbrev pub smallest_of : List (List (ℕ × ℕ)) → List (ℕ × ℕ)
smallest_of [] = []
smallest_of (l ∷ ls) = smallest l ls

-- "several pairings reach the least sum": the valid ones whose sum is not above the node's vote
abbrev pub reaching : Side → (M N : ℕ → Bool) → ℕ → List Pairing
reaching K M N v = keep (λ r. le_z (sumℤ (place_vote K.rank) r) (node_vote K M N v)) (valid_pairings K M N v)

-- "A node's vote now comes with a pairing that reaches it"; "Where several pairings reach the least sum, the one whose ascending list of rank
-- pairs, own rank first, is smallest entry by entry is given, in that order."
unfoldable pub facing : Side → (M N : ℕ → Bool) → ℕ → List (ℕ × ℕ)
facing K M N v = smallest_of (map (rank_pairs K.rank) (reaching K M N v))

-- two bytes a place, no count: the quotas tell where a node's places begin
abbrev pub facing_bytes : List (ℕ × ℕ) → List ℕ
facing_bytes cs = gather (λ c. c.0 ∷ c.1 ∷ []) cs

-- the nodes of one side, ascending
abbrev pub side_bytes : Side → (M N : ℕ → Bool) → List ℕ
side_bytes K M N = gather (λ v. facing_bytes (facing K M N v)) (range 0 K.n)

-- the pairings of the vote of M against N, "surveyors' nodes before stands'"
unfoldable pub pairing_bytes : Instance → (M N : ℕ → Bool) → List ℕ
pairing_bytes G M N = side_bytes (surveyors G) M N ++ side_bytes (stands G) M N
