-- The limits and sizes of document 01 and of document 02's requests, each under a name of its own, also where two are equal: they
-- are about different things.
use Rattle.std.specs.Prelude.{ℕ}

-- "a count byte 0 to 32"
abbrev pub node_limit : ℕ
node_limit = 32

-- "one quota byte each, 0 to 8"; "the quotas of one side sum to at most 64"
abbrev pub quota_limit : ℕ
quota_limit = 8

-- "The quotas of one side sum to at most 64."
abbrev pub quota_sum_limit : ℕ
quota_sum_limit = 64

-- "a two-byte count of all entries, low byte first, at most 1,024"
abbrev pub entry_limit : ℕ
entry_limit = 1024

-- W-204: "A list may now be longer than the other side's count, but has at most 32 entries."
abbrev pub list_limit : ℕ
list_limit = 32

-- W-204: "a shift byte, 1 to 3"
abbrev pub shift_limit : ℕ
shift_limit = 3

-- a plan's "count byte 0 to 64"
abbrev pub plan_limit : ℕ
plan_limit = 64

-- an entry's bytes: "a shift byte, 1 to 3, after its number"; a pair's: surveyor, stand, shift
abbrev pub entry_width : ℕ
entry_width = 2

-- the bytes of a pair in a plan file: surveyor, stand, shift
abbrev pub pair_width : ℕ
pair_width = 3

-- "an empty place has rank 33"
abbrev pub empty_rank : ℕ
empty_rank = 33

-- W-204: "Plans of up to 64 entries now need 193 bytes, rosters 4,262"; "the diary and the left pairs 1,024 entries each"
abbrev pub plan_size : ℕ
plan_size = 193

-- the bytes of the longest roster, which a buffer for a roster has to hold
abbrev pub roster_size : ℕ
roster_size = 4262

-- how many records a lent diary has to hold
abbrev pub diary_size : ℕ
diary_size = 1024

-- 1,024 entries of three bytes, a pair each
abbrev pub left_size : ℕ
left_size = 3072

-- W-214: "Either buffer needs 4,295 bytes": a route's count and 32 numbers, and the longest roster
abbrev pub stored_size : ℕ
stored_size = 4295

-- W-209: "over days 1 to 9: one day byte for each entry in the plan's order, in a buffer of 64 bytes"
abbrev pub last_day : ℕ
last_day = 9

-- the bytes of a buffer for a plan's days: one for each of up to 64 entries
abbrev pub day_size : ℕ
day_size = 64

-- W-208: "Each vote's pairings need a buffer of 256 bytes": two bytes a place, and the quotas of each side sum to at most 64
abbrev pub pairing_size : ℕ
pairing_size = 256

-- W-211: "high above 32" is refused: the highest rank of an entry; an empty place stays worse
abbrev pub rank_limit : ℕ
rank_limit = 32

-- W-211: "a rank byte for each range, in a buffer of 2,048 bytes": at most 1,024 entries on either side
abbrev pub choice_size : ℕ
choice_size = 2048

-- W-204: "the program reads at most 4,263"
abbrev pub input_size : ℕ
input_size = 4263

-- files without shifts: "The longest roster has 2,214 bytes", a plan of 64 pairs 129
abbrev pub old_roster_size : ℕ
old_roster_size = 2214

-- the bytes of the longest plan without shifts: a count byte and 64 pairs of two
abbrev pub old_plan_size : ℕ
old_plan_size = 129
