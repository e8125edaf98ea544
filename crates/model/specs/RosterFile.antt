-- Roster bytes read and written: section "Roster bytes" of document 01 with the shifts of W-204, and refusals 1 to 9 and 18 in their order:
-- "Files are checked left to right, each field in the order 1 to 6 (..); 7 after its section, then 9, then 8", and 18 "straight after 4".
use Rattle.std.specs.Prelude.{ℕ, ◌+◌, ◌*◌, ◌/◌, ◌%◌, not, cond, ◌||◌, List, [], ◌∷◌, ◌++◌, length, eqb, ltb}
use Rattle.lists.specs.Keep.{gather}
use Rattle.model.specs.Limits.{node_limit, quota_limit, quota_sum_limit, entry_limit, list_limit, shift_limit}
use Rattle.model.specs.Reading.{Reading, accepted, refused, ◌then◌, refuse_if, byte, two_bytes, read_each, whole}
use Rattle.model.specs.Roster.{Entry, Ranking, Roster, entries, has, before, no_entry, outside, total_s, total_t, both_or_neither}

-- "2 a count or list length above its limit"
abbrev pub read_count : ℕ → List ℕ → Reading (ℕ × List ℕ)
read_count limit bs = byte bs then (λ n rest. refuse_if (ltb limit n) 2 (accepted (n, rest)))

-- "a two-byte count of all entries, low byte first, at most 1,024"
abbrev pub read_wide_count : List ℕ → Reading (ℕ × List ℕ)
read_wide_count bs = two_bytes bs then (λ w rest. refuse_if (ltb entry_limit (w.0 + 256 * w.1)) 2 (accepted (w.0 + 256 * w.1, rest)))

-- "3 a quota above 8, or the field that takes its side past 64"; so is the sum of the quotas before
abbrev pub quota_check : ℕ → ℕ → ℕ
quota_check so q = cond (ltb quota_limit q || ltb quota_sum_limit (so + q)) 3 0

-- n quotas, each checked with the sum of those before it
abbrev pub read_quotas : ℕ → List ℕ → Reading (List ℕ × List ℕ)
read_quotas n bs = read_each byte quota_check (λ so q. so + q) n 0 bs

-- "a count byte 0 to 32, then one quota byte each"
abbrev pub read_nodes : List ℕ → Reading (List ℕ × List ℕ)
read_nodes bs = read_count node_limit bs then read_quotas

-- ---- how an entry stands in a file, and how long a list may be where the other side has so many
pub record Layout : Type 0 where
  pub field : List ℕ → Reading (Entry × List ℕ)
  pub bytes : Entry → List ℕ
  pub longest : ℕ → ℕ

-- "An entry .. with its shift is one field"; "has at most 32 entries"
abbrev pub shifted : Layout
shifted = record {
  field = λ bs. two_bytes bs then (λ w rest. accepted (record { number = w.0; shift = w.1 }, rest));
  bytes = λ x. x.number ∷ x.shift ∷ [];
  longest = λ count. list_limit;
}

-- a file from before the shifts: "shift 1 throughout"; "an old roster keeps the list limit from before W-204"
abbrev pub plain : Layout
plain = record {
  field = λ bs. byte bs then (λ n rest. accepted (record { number = n; shift = 1 }, rest));
  bytes = λ x. x.number ∷ [];
  longest = λ count. count;
}

-- "4 a list entry that is 0 or above the other side's count"; "a shift outside 1 to 3 in a list (18, straight after 4)"
abbrev pub entry_refusal : (other : ℕ) → Entry → ℕ → ℕ
entry_refusal other x n = cond (outside other x.number) 4 (cond (outside shift_limit x.shift) 18 n)

-- "5 an entry twice in one list": among those before it
abbrev pub entry_check : (other : ℕ) (seen : List Entry) → Entry → ℕ
entry_check other seen x = entry_refusal other x (cond (has x seen) 5 0)

-- a tie goes on in the same list, behind its strict entries, which count as seen, and must also ascend: "6 a tie that does not
-- ascend". Each tied entry is behind the one before it, the first behind none.
pub record Tie : Type 0 where
  pub seen : List Entry
  pub last : Entry

-- the refusal that a tied entry meets, in the order 4, 18, 5, 6; 0 for none
abbrev pub tied_check : (other : ℕ) → Tie → Entry → ℕ
tied_check other s x = entry_refusal other x (cond (has x s.seen) 5 (cond (before s.last x) 0 6))

-- n lists, one after another, with nothing to check between them
abbrev pub read_many : {A : Type 0} → (List ℕ → Reading (A × List ℕ)) → ℕ → List ℕ → Reading (List A × List ℕ)
read_many {A} field n bs = read_each {S = Unit {0}} {A = A} field (λ s x. 0) (λ s x. s) n tt bs

-- a section of lists: its count, the lists, and then "7 a section count that is not the sum of its lengths"
abbrev pub read_section : {A : Type 0} → (List ℕ → Reading (A × List ℕ)) → (List A → ℕ) → ℕ → List ℕ → Reading (List A × List ℕ)
read_section f total n bs = read_wide_count bs then (λ w rest. read_many f n rest then (λ xs rest. refuse_if (not (eqb w (total xs))) 7 (accepted (xs, rest))))

-- "8 a pair listed by one side only", after 9
abbrev pub one_sided : Reading Roster → Reading Roster
one_sided (accepted r) = cond (both_or_neither r) (accepted r) (refused 8)
one_sided (refused n) = refused n

-- ---- written: a count of two bytes, quotas
abbrev pub wide_bytes : ℕ → List ℕ
wide_bytes n = n % 256 ∷ n / 256 ∷ []

-- a count byte, and the bytes that it counts
abbrev pub list_bytes : List ℕ → List ℕ
list_bytes xs = length xs ∷ xs

-- ---- all that depends on the layout
module _ (L : Layout) where
  -- n strict entries of a list, each checked with those before it
  abbrev pub read_entries : (other : ℕ) → ℕ → List ℕ → Reading (List Entry × List ℕ)
  read_entries other n bs = read_each L.field (entry_check other) (λ seen x. seen ++ x ∷ []) n [] bs

  -- n tied entries behind the strict ones of a list, each checked with all those before it
  abbrev pub read_tied : (other : ℕ) (strict : List Entry) → ℕ → List ℕ → Reading (List Entry × List ℕ)
  read_tied other strict n bs = read_each L.field (tied_check other) (λ s x. record { seen = s.seen ++ x ∷ []; last = x }) n
      (record { seen = strict; last = no_entry }) bs

  -- "a length byte and stand numbers, best first"; a list has at most `longest` entries and numbers up to `other`
  abbrev pub read_list : (longest other : ℕ) → List ℕ → Reading (List Entry × List ℕ)
  read_list longest other bs = read_count longest bs then read_entries other

  -- "the strict length byte, the tie length byte, the strict surveyors best first, the tied ones ascending"; "A stand's two lengths
  -- are read, then their sum is checked."
  abbrev pub read_ranking : (longest other : ℕ) → List ℕ → Reading (Ranking × List ℕ)
  read_ranking longest other bs = byte bs then (λ a rest. byte rest then (λ b rest. refuse_if (ltb longest (a + b)) 2
      (read_entries other a rest then (λ xs rest. read_tied other xs b rest then (λ ys rest. accepted (record { strict = xs; tied = ys }, rest))))))

  -- the four sections in their order
  abbrev pub read_sections : List ℕ → Reading (Roster × List ℕ)
  read_sections bs = read_nodes bs then (λ qs rest. read_nodes rest then (λ qt rest.
      read_section (read_list (L.longest (length qt)) (length qt)) total_s (length qs) rest then (λ ls rest.
      read_section (read_ranking (L.longest (length qs)) (length qs)) total_t (length qt) rest then (λ ts rest.
      accepted (record { quotas_s = qs; quotas_t = qt; lists_s = ls; lists_t = ts }, rest)))))

  -- a roster file read in full: its sections, nothing after them, and every pair in both lists
  unfoldable pub read_roster_by : List ℕ → Reading Roster
  read_roster_by bs = one_sided (whole (read_sections bs))

  -- a surveyor's list: its length byte and its entries
  abbrev pub entries_bytes : List Entry → List ℕ
  entries_bytes xs = length xs ∷ gather L.bytes xs

  -- a stand's list: the strict length byte, the tie length byte, and the entries, the strict ones first
  abbrev pub ranking_bytes : Ranking → List ℕ
  ranking_bytes R = length R.strict ∷ length R.tied ∷ gather L.bytes (entries R)

  -- a roster's file: the quotas of both sides, then the lists of both, each section after its count
  unfoldable pub write_roster_by : Roster → List ℕ
  write_roster_by r = list_bytes r.quotas_s ++ (list_bytes r.quotas_t
      ++ ((wide_bytes (total_s r.lists_s) ++ gather entries_bytes r.lists_s)
      ++ (wide_bytes (total_t r.lists_t) ++ gather ranking_bytes r.lists_t)))

-- a roster's bytes
abbrev pub read_roster : List ℕ → Reading Roster
read_roster bs = read_roster_by shifted bs

-- the file of a roster, with shifts
abbrev pub write_roster : Roster → List ℕ
write_roster r = write_roster_by shifted r
