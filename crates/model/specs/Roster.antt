-- A roster as it stands in a file: section "Roster bytes" of document 01, with the shifts of W-204. Its numbers start at 1, as in the file.
use Rattle.std.specs.Prelude.{ℕ, suc, Bool, true, false, not, ◌&&◌, ◌||◌, List, [], ◌∷◌, ◌++◌, length, get_or, eqb, leb, ltb}
use Rattle.lists.specs.Sum.{sum, up_to, range}
use Rattle.lists.specs.Keep.{all?, any?}
use Rattle.model.specs.Limits.{node_limit, quota_limit, quota_sum_limit, entry_limit, list_limit, shift_limit}

-- "Each list entry .. gains a shift byte, 1 to 3, after its number."
pub record Entry : Type 0 where
  pub number : ℕ
  pub shift : ℕ

-- a stand's list: "the strict surveyors best first, the tied ones ascending"
pub record Ranking : Type 0 where
  pub strict : List Entry
  pub tied : List Entry

-- the quotas and the lists of both sides
pub record Roster : Type 0 where
  pub quotas_s : List ℕ  -- the surveyors' quotas, the stands'
  pub quotas_t : List ℕ
  pub lists_s : List (List Entry)  -- each surveyor's entries, best first
  pub lists_t : List Ranking

-- all entries of a stand's list, the strict ones first
abbrev pub entries : Ranking → List Entry
entries R = R.strict ++ R.tied

-- how many surveyors and stands there are
abbrev pub surveyor_count : Roster → ℕ
surveyor_count r = length r.quotas_s

-- how many stands there are
abbrev pub stand_count : Roster → ℕ
stand_count r = length r.quotas_t

-- the list of the surveyor, of the stand, at a place from 0 on
abbrev pub list_s : Roster → ℕ → List Entry
list_s r i = get_or r.lists_s i []

-- the list of the stand at a place from 0 on; empty where there is no stand
abbrev pub list_t : Roster → ℕ → Ranking
list_t r j = get_or r.lists_t j (record { strict = []; tied = [] })

-- is the number in the list?
abbrev pub elem : ℕ → List ℕ → Bool
elem x xs = any? (eqb x) xs

-- "An entry repeats only if number and shift repeat"
abbrev pub same : Entry → Entry → Bool
same x y = eqb x.number y.number && eqb x.shift y.shift

-- is the entry in the list?
abbrev pub has : Entry → List Entry → Bool
has x xs = any? (same x) xs

-- "ascending means by surveyor, stand, shift": in one stand's tie, by surveyor, then by shift
abbrev pub before : Entry → Entry → Bool
before x y = ltb x.number y.number || (eqb x.number y.number && ltb x.shift y.shift)

-- "a list entry that is 0 or above the other side's count"
abbrev pub outside : ℕ → ℕ → Bool
outside count x = eqb x 0 || ltb count x

-- the entries of all lists of one side
abbrev pub total_s : List (List Entry) → ℕ
total_s ls = sum length ls

-- the entries of all stands' lists, strict and tied
abbrev pub total_t : List Ranking → ℕ
total_t ts = sum (λ R. length (entries R)) ts

-- the pair of surveyor i, stand j and shift k, as the surveyor's list has it, as the stand's has it
unfoldable pub listed : Roster → ℕ → ℕ → ℕ → Bool
listed r i j k = has (record { number = suc j; shift = k }) (list_s r i)

-- the pair of surveyor i, stand j and shift k is in the stand's list
unfoldable pub listed_back : Roster → ℕ → ℕ → ℕ → Bool
listed_back r i j k = has (record { number = suc i; shift = k }) (entries (list_t r j))

-- both pass or both fail
abbrev pub alike : Bool → Bool → Bool
alike true b = b
alike false b = not b

-- the shifts 1 to 3
abbrev pub shifts : List ℕ
shifts = range 1 shift_limit

-- "A pair .. stands in both lists or in neither"; "one surveyor and one stand in two shifts are two pairs"
unfoldable pub both_or_neither : Roster → Bool
both_or_neither r = all? (λ i. all? (λ j. all? (λ k. alike (listed r i j k) (listed_back r i j k)) shifts) (up_to (stand_count r))) (up_to (surveyor_count r))

-- ---- a roster within the limits: what every accepted file holds (theory_files, read-fits)
abbrev pub quotas_fit : List ℕ → Bool
quotas_fit qs = leb (length qs) node_limit && (all? (λ q. leb q quota_limit) qs && leb (sum (λ q. q) qs) quota_sum_limit)

-- no entry twice
abbrev pub distinct : List Entry → Bool
distinct [] = true
distinct (x ∷ xs) = not (has x xs) && distinct xs

-- ascending, each behind the one before it
abbrev pub ascending : Entry → List Entry → Bool
ascending last [] = true
ascending last (x ∷ xs) = before last x && ascending x xs

-- number and shift in range
abbrev pub entry_fits : ℕ → Entry → Bool
entry_fits count x = not (outside count x.number) && not (outside shift_limit x.shift)

-- a list has at most `longest` entries, none out of range, none twice
abbrev pub list_fits : (longest count : ℕ) → List Entry → Bool
list_fits longest count xs = leb (length xs) longest && (all? (entry_fits count) xs && distinct xs)

-- before every entry: what the first tied one is behind
abbrev pub no_entry : Entry
no_entry = record { number = 0; shift = 0 }

-- a stand's list within the limits: all its entries as one list, and an ascending tie
abbrev pub ranking_fits : (longest count : ℕ) → Ranking → Bool
ranking_fits longest count R = list_fits longest count (entries R) && ascending no_entry R.tied

-- the limit on a list's length may look at the other side's count
unfoldable pub fits_by : (ℕ → ℕ) → Roster → Bool
fits_by longest r = (quotas_fit r.quotas_s && quotas_fit r.quotas_t)
    && ((eqb (length r.lists_s) (surveyor_count r)
    && (all? (list_fits (longest (stand_count r)) (stand_count r)) r.lists_s && leb (total_s r.lists_s) entry_limit))
    && ((eqb (length r.lists_t) (stand_count r)
    && (all? (ranking_fits (longest (surveyor_count r)) (surveyor_count r)) r.lists_t && leb (total_t r.lists_t) entry_limit))
    && both_or_neither r))

-- a roster within the limits, with lists of up to 32 entries
abbrev pub fits : Roster → Bool
fits r = fits_by (λ count. list_limit) r
