-- What is asked at the desk, and what an answer says: the calls that only ask, with the files and buffers lent to them, and the answers, typed by what
-- they are about. A call that takes something in is one of the desk's own (Desk, `Call`).
use Rattle.std.specs.Prelude.{ℕ, Bool, true, false, List, ℤ}
use Rattle.model.specs.Refusal.{Group, group_of}
use Rattle.model.specs.Finder.{Record}
use Rattle.model_desk.specs.Compare.{Winner}

-- what a call and its answer are about
pub data Topic : Type 0 where
  loads : Topic
  writes : Topic
  finds : Topic
  judges : Topic
  compares : Topic
  blocks : Topic
  proposes : Topic
  commits : Topic
  bounds : Topic
  keeps : Topic

-- why there is none: so many pairs left, or the candidate's vote against its rival
pub data NoneKind : Type 0 where
  left : ℕ → NoneKind
  rivalled : ℤ → NoneKind

-- what is held, or has to be; each with what comes before it
pub data Level : Type 0 where
  bare : Level
  a_roster : Level
  a_plan : Level
  a_proposal : Level

-- what a call says that is not refused
pub data Said : Topic → Type 0 where
  loaded : Said loads
  wrote : ℕ → Said writes  -- writing answers how many bytes: the house's own
  plan : (steps : ℕ) → Said finds  -- the finder's, each with the number of steps
  none : (steps : ℕ) → NoneKind → Said finds
  strong : Said judges  -- the verdict's; the other two with the vote against the rival that is written
  popular : ℤ → Said judges
  beaten : ℤ → Said judges
  votes : ℤ → ℤ → Winner → Said compares  -- the comparison's
  blocked_by : (surveyor stand shift : ℕ) → Said blocks  -- yes, with the pair
  unblocked : Said blocks
  both_votes : (proposal held : ℤ) → Said proposes  -- W-207, "and returns both votes": the proposal's against the held plan, and the reverse
  committed : Said commits
  least_vote : ℤ → (bytes : ℕ) → Said bounds  -- W-211: "the least vote", and how many bytes of the choice are written
  holding : Level → Said keeps

-- "A refusal returns only its number and its group (a comparison also its empty part)": the part is Desk's `part_in`
pub data Answer (k : Topic) : Type 0 where
  refused : ℕ → Group → Answer k
  said : Said k → Answer k

abbrev pub refusal : {k : Topic} → ℕ → Answer k
refusal n = refused n (group_of n)

abbrev pub is_refused : {k : Topic} → Answer k → Bool
is_refused (refused n g) = true
is_refused (said x) = false

-- the calls that only ask: "Finder, verdict, comparison, blocking and writing leave the desk alike", and so does a plan of another season, which goes
-- to the buffer alone. The left pairs' buffer is bytes, three for each of its 1,024 entries; the finder's plan and its candidate share one buffer, as
-- there is never more than one of them.
pub data Asking : Topic → Type 0 where
  write_roster_to : (buffer : List ℕ) → Asking writes
  write_plan_to : (buffer : List ℕ) → Asking writes
  find : (diary : List Record) (left plan rival : List ℕ) → Asking finds
  judge : (rival pairings : List ℕ) → Asking judges  -- W-208: the pairings of the vote against the rival
  compare : (first second forward back : List ℕ) → Asking compares  -- the pairings of the first vote, of the second
  blocking : Asking blocks
  plan_to_new : (file buffer : List ℕ) → Asking writes  -- W-205: a plan of an old season, and back
  plan_to_old : (file buffer : List ℕ) → Asking writes
  spread : (buffer : List ℕ) → Asking writes  -- W-209: a day for each entry of the held plan
  least : (first second ranges buffer : List ℕ) → Asking bounds  -- W-211: two plans and ranges of ranks
  holds : Asking keeps  -- what is held
  write_proposal_to : (buffer : List ℕ) → Asking writes
