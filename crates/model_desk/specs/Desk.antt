-- The desk, document 01's session state, and each call on it: what the call answers, every byte lent to it afterwards, and what the
-- desk then holds. A `Call` is a call with the files and buffers lent to it; it also stands for the same buffers as they are afterwards.
-- Which rival, which spreading and which choice of ranks is open: they are fields of a record `Choices`, with what holds of them.
use Rattle.std.specs.Prelude.{ℕ, suc, ◌≡◌, Bool, true, false, not, cond, ◌&&◌, ◌||◌, List, ◌++◌, length, drop, T, ltb}
use Rattle.std.proofs.Math.Option as O
use Rattle.std.proofs.Math.Option.{Option, some}
use Rattle.lists.specs.Sum.{◌∈◌}
use Rattle.model.specs.Limits.{plan_size, roster_size, diary_size, left_size, day_size, pairing_size, choice_size}
use Rattle.model.specs.Reading as reading
use Rattle.model.specs.Reading.{Reading, accepted, is_bytes}
use Rattle.model.specs.Roster.{Roster, fits}
use Rattle.model.specs.RosterFile.{read_roster, write_roster}
use Rattle.model.specs.Edges.{instance_of}
use Rattle.model.specs.Instance.{Instance}
use Rattle.model.specs.Plans as P
use Rattle.model.specs.Plans.{Plan, Verdict, is_strong, on, plans_of, vote_of, verdict_of}
use Rattle.model.specs.PlanFile.{pair_list, plan_bytes, read_plan}
use Rattle.model.specs.Facing.{pairing_bytes}
use Rattle.model.specs.Reduction.{steps_of}
use Rattle.model.specs.Finder as F
use Rattle.model.specs.Finder.{Record, diary_of, Rival, Found, finder_of}
use Rattle.model_desk.specs.Compare as C
use Rattle.model_desk.specs.Compare.{Comparison, Part, comparison_of}
use Rattle.model.specs.Blocking.{some_blocks, top_blocking}
use Rattle.model_changes.specs.Changes.{join_on, leave_on, gone, carried}
use Rattle.model.specs.Days.{Sheet}
use Rattle.model.specs.Ranges.{Question, read_question, ranked, Least}
use Rattle.model_desk.specs.Seasons as S
use Rattle.model_desk.specs.Calls as A
pub use Rattle.model_desk.specs.Calls.{Topic, loads, writes, finds, judges, compares, blocks, proposes, commits, bounds, keeps, Asking}
pub use Rattle.model_desk.specs.Calls.{Answer, refused, said, refusal, is_refused, Said, loaded, wrote, plan, none, NoneKind, left, rivalled}
pub use Rattle.model_desk.specs.Calls.{strong, popular, beaten, votes, blocked_by, unblocked, both_votes, committed, least_vote, holding}
pub use Rattle.model_desk.specs.Calls.{Level, bare, a_roster, a_plan, a_proposal}

-- "nothing loaded, a roster, or a roster and a plan"; W-207: "A proposal stores the new plan beside the held one"
pub data Held : Type 0 where
  nothing : Held
  roster : Roster → Held
  planned : Roster → Plan → Held
  proposed : Roster → (plan proposal : Plan) → Held

-- a desk that is new
abbrev pub opening : Held
opening = nothing

-- the calls: those that take something in, and those that only ask
pub data Call : Topic → Type 0 where
  load_roster : (file : List ℕ) → Call loads
  load_plan : (file : List ℕ) → Call loads
  join : (quota : ℕ) (file : List ℕ) (diary : List Record) (left plan rival : List ℕ) → Call finds  -- W-202: "both calls are also lent the finder's buffers"
  leave : (number : ℕ) (diary : List Record) (left plan rival : List ℕ) → Call finds
  propose : (file forward back : List ℕ) → Call proposes  -- W-207; the pairings of the proposal's vote, of the held plan's
  commit : Call commits
  asks : {k : Topic} → Asking k → Call k

-- a call that is lent the finder's buffers: diary, left pairs, plan, rival
abbrev pub Lends : Type 0
Lends = List Record → (left plan rival : List ℕ) → Call finds

-- the call that writes the held roster to a buffer
abbrev pub write_roster_to : List ℕ → Call writes
write_roster_to b = asks (A.write_roster_to b)

-- the call that writes the held plan to a buffer
abbrev pub write_plan_to : List ℕ → Call writes
write_plan_to b = asks (A.write_plan_to b)

-- the call of the finder on the held roster
abbrev pub find : Lends
find d l p v = asks (A.find d l p v)

-- the call for the verdict on the held plan, lent a buffer for the rival and one for the pairings of the vote against it
abbrev pub judge : (rival pairings : List ℕ) → Call judges
judge v f = asks (A.judge v f)

-- the call that compares two plan files, lent a buffer for each vote's pairings
abbrev pub compare : (first second forward back : List ℕ) → Call compares
compare a b f k = asks (A.compare a b f k)

-- the call for a blocking pair of the held plan
abbrev pub blocking : Call blocks
blocking = asks A.blocking

-- the call that turns a plan file of an old season into a new one (W-205)
abbrev pub plan_to_new : (file buffer : List ℕ) → Call writes
plan_to_new f b = asks (A.plan_to_new f b)

-- the call that turns a new plan file into one of an old season (W-205)
abbrev pub plan_to_old : (file buffer : List ℕ) → Call writes
plan_to_old f b = asks (A.plan_to_old f b)

-- the call that gives each entry of the held plan a day (W-209)
abbrev pub spread : List ℕ → Call writes
spread b = asks (A.spread b)

-- the call for the least vote of the first plan file against the second under ranges of ranks (W-211)
abbrev pub least : (first second ranges buffer : List ℕ) → Call bounds
least a b c w = asks (A.least a b c w)

-- the call that asks how much is held
abbrev pub holds : Call keeps
holds = asks A.holds

-- the call that writes the open proposal to a buffer
abbrev pub write_proposal_to : List ℕ → Call writes
write_proposal_to b = asks (A.write_proposal_to b)

-- what a call needs to be held
abbrev pub need : {k : Topic} → Call k → Level
need (load_roster file) = bare
need (load_plan file) = a_roster
need (join q f d l p v) = a_roster
need (leave s d l p v) = a_roster
need (propose a f k) = a_plan
need commit = a_proposal
need (asks (A.write_roster_to b)) = a_roster
need (asks (A.write_plan_to b)) = a_plan
need (asks (A.find d l p v)) = a_roster
need (asks (A.judge v f)) = a_plan
need (asks (A.compare a b f k)) = a_roster
need (asks A.blocking) = a_plan
need (asks (A.plan_to_new f b)) = a_roster
need (asks (A.plan_to_old f b)) = a_roster
need (asks (A.spread b)) = a_plan
need (asks (A.least a b c w)) = a_roster
need (asks A.holds) = bare
need (asks (A.write_proposal_to b)) = a_proposal

-- whether a call of this level needs a roster loaded
abbrev pub needs_roster : Level → Bool
needs_roster bare = false
needs_roster a_roster = true
needs_roster a_plan = true
needs_roster a_proposal = true

-- whether a call of this level needs a plan held
abbrev pub needs_plan : Level → Bool
needs_plan bare = false
needs_plan a_roster = false
needs_plan a_plan = true
needs_plan a_proposal = true

-- whether a call of this level needs an open proposal
abbrev pub needs_proposal : Level → Bool
needs_proposal bare = false
needs_proposal a_roster = false
needs_proposal a_plan = false
needs_proposal a_proposal = true

-- "a buffer for a plan, candidate or rival needs" 193 bytes, "for a roster" 4,262 (W-204), "the diary and the left pairs 1,024 entries
-- each, however little is written"; W-205: "The buffer written to needs 4,262 or 193 bytes either way."; W-208:
-- "Each vote's pairings need a buffer of 256 bytes, else 15"; W-209: "in a buffer of 64 bytes, else 15"; W-211: "in a buffer of 2,048 bytes, else 15"
abbrev pub short : List ℕ → ℕ → Bool
short buffer size = ltb (length buffer) size

-- one of the finder's four buffers is below its size
abbrev pub finder_short : List Record → (left plan rival : List ℕ) → Bool
finder_short d l p v = ltb (length d) diary_size || (short l left_size || (short p plan_size || short v plan_size))

-- a buffer lent to the call is below its size
abbrev pub lent_short : {k : Topic} → Call k → Bool
lent_short (load_roster file) = false
lent_short (load_plan file) = false
lent_short (join q f d l p v) = finder_short d l p v
lent_short (leave s d l p v) = finder_short d l p v
lent_short (propose a f k) = short f pairing_size || short k pairing_size
lent_short commit = false
lent_short (asks (A.write_roster_to b)) = short b roster_size
lent_short (asks (A.write_plan_to b)) = short b plan_size
lent_short (asks (A.find d l p v)) = finder_short d l p v
lent_short (asks (A.judge v f)) = short v plan_size || short f pairing_size
lent_short (asks (A.compare a b f k)) = short f pairing_size || short k pairing_size
lent_short (asks A.blocking) = false
lent_short (asks (A.plan_to_new f b)) = short b plan_size
lent_short (asks (A.plan_to_old f b)) = short b plan_size
lent_short (asks (A.spread b)) = short b day_size
lent_short (asks (A.least a b c w)) = short w choice_size
lent_short (asks A.holds) = false
lent_short (asks (A.write_proposal_to b)) = short b plan_size

-- no roster is loaded
abbrev pub no_roster : Held → Bool
no_roster nothing = true
no_roster (roster r) = false
no_roster (planned r M) = false
no_roster (proposed r M N) = false

-- no plan is held
abbrev pub no_plan : Held → Bool
no_plan nothing = true
no_plan (roster r) = true
no_plan (planned r M) = false
no_plan (proposed r M N) = false

-- no proposal is open
abbrev pub no_proposal : Held → Bool
no_proposal nothing = true
no_proposal (roster r) = true
no_proposal (planned r M) = true
no_proposal (proposed r M N) = false

-- "13, 14, 15 come first, in that order", and 20 after 14 (W-207): 13, 14, 20 or 15; 0 where the call meets none of them
unfoldable pub state_refusal : Held → {k : Topic} → Call k → ℕ
state_refusal h c = cond (needs_roster (need c) && no_roster h) 13
    (cond (needs_plan (need c) && no_plan h) 14 (cond (needs_proposal (need c) && no_proposal h) 20 (cond (lent_short c) 15 0)))

-- what is written at a buffer's front; "Beyond what is written, buffers keep their bytes."
abbrev pub onto : {A : Type 0} → List A → List A → List A
onto front buffer = front ++ drop (length front) buffer

-- ---- what a call that passes answers and writes, where nothing is open
-- a load
abbrev pub loaded_roster : Reading Roster → Answer loads
loaded_roster (accepted r) = said loaded
loaded_roster (reading.refused n) = refusal n

-- a plan's load: loaded, or the refusal
abbrev pub loaded_plan : Reading Plan → Answer loads
loaded_plan (accepted M) = said loaded
loaded_plan (reading.refused n) = refusal n

-- the finder: the steps it took, and what it found
abbrev pub found_answer : ℕ → Found → Answer finds
found_answer n (F.plan M) = said (plan n)
found_answer n (F.left es) = said (none n (left (length es)))
found_answer n (F.rivalled M N v) = said (none n (rivalled v))

-- a call's buffers after a find: the diary, and the plan, or the left pairs, or the candidate and its rival
abbrev pub found_written : Lends → Instance → Found → Lends
found_written call G (F.plan M) d l p v = call (onto (diary_of G) d) l (onto (plan_bytes G M) p) v
found_written call G (F.left es) d l p v = call (onto (diary_of G) d) (onto (pair_list G es) l) p v
found_written call G (F.rivalled M N w) d l p v = call (onto (diary_of G) d) l (onto (plan_bytes G M) p) (onto (plan_bytes G N) v)

-- the verdict on M, with its rival N: "Beaten and popular write a rival, such an N, and the vote of M against it."
abbrev pub verdict_answer : Instance → (M N : Plan) → Verdict → Answer judges
verdict_answer G M N P.strong = said strong
verdict_answer G M N P.popular = said (popular (vote_of G M N))
verdict_answer G M N P.beaten = said (beaten (vote_of G M N))

-- W-208: with the rival the pairings of the vote against it; "a strong verdict writes none"
abbrev pub verdict_written : Instance → (M N : Plan) → Verdict → (rival pairings : List ℕ) → Call judges
verdict_written G M N P.strong v f = judge v f
verdict_written G M N P.popular v f = judge (onto (plan_bytes G N) v) (onto (pairing_bytes G (on M) (on N)) f)
verdict_written G M N P.beaten v f = judge (onto (plan_bytes G N) v) (onto (pairing_bytes G (on M) (on N)) f)

-- the comparison
abbrev pub comparison_answer : Comparison → Answer compares
comparison_answer (C.votes v w x) = said (votes v w x)
comparison_answer (C.refused n) = refusal n

-- the part that is handed back with an answer: the winner's, and "on a refusal, the part is empty, taken from the first file"
abbrev pub part_in : (first second : List ℕ) → Answer compares → Part
part_in a b (said (votes v w x)) = C.winner_part x a b
part_in a b (refused n g) = C.winner_part C.neither a b

-- "The answer is yes with some such pair, or no": the pair is edge e, W-201's first one
abbrev pub blocking_answer : Instance → (e : ℕ) → Bool → Answer blocks
blocking_answer G e true = said (blocked_by (suc (G.sv e)) (suc (G.st e)) (G.sh e))
blocking_answer G e false = said unblocked

-- W-205, a file of another season: the number of its bytes is answered, and they are written to the buffer's front
abbrev pub converted_answer : Reading (List ℕ) → Answer writes
converted_answer (accepted bs) = said (wrote (length bs))
converted_answer (reading.refused n) = refusal n

-- the buffer afterwards: the file's bytes at its front; a refusal changes no byte
abbrev pub converted_onto : Reading (List ℕ) → List ℕ → List ℕ
converted_onto (accepted bs) b = onto bs b
converted_onto (reading.refused n) b = b

-- W-207: both votes, the proposal's against the held plan first
abbrev pub proposal_answer : Instance → Plan → Reading Plan → Answer proposes
proposal_answer G M (accepted N) = said (both_votes (vote_of G N M) (vote_of G M N))
proposal_answer G M (reading.refused n) = refusal n

-- W-208: its pairings, and those of the held plan's vote
abbrev pub proposal_pairings : Instance → Plan → Reading Plan → C.Pairings
proposal_pairings G M (accepted N) = C.both_pairings G N M
proposal_pairings G M (reading.refused n) = C.no_pairings

-- the pairings of two votes in their buffers
abbrev pub pairings_onto : {k : Topic} → (List ℕ → List ℕ → Call k) → C.Pairings → (forward back : List ℕ) → Call k
pairings_onto call p f k = call (onto p.0 f) (onto p.1 k)

-- ---- what is said of the roster held, of the roster and the plan held, of the proposal beside it; x where they are not there, and the state
-- refuses the call
abbrev pub on_roster : {A : Type 0} → A → Held → (Roster → A) → A
on_roster x nothing f = x
on_roster x (roster r) f = f r
on_roster x (planned r M) f = f r
on_roster x (proposed r M N) f = f r

-- what is said of the roster and the plan held; x where no plan is held
abbrev pub on_plan : {A : Type 0} → A → Held → (Roster → Plan → A) → A
on_plan x nothing f = x
on_plan x (roster r) f = x
on_plan x (planned r M) f = f r M
on_plan x (proposed r M N) f = f r M

abbrev pub on_proposal : {A : Type 0} → A → Held → (Roster → Plan → A) → A
on_proposal x nothing f = x
on_proposal x (roster r) f = x
on_proposal x (planned r M) f = x
on_proposal x (proposed r M N) f = f r N

-- how much is held
abbrev pub level_of : Held → Level
level_of nothing = bare
level_of (roster r) = a_roster
level_of (planned r M) = a_plan
level_of (proposed r M N) = a_proposal

-- the plan held, with its roster; a proposal beside it is none
abbrev pub plan_held : Held → Option (Roster × Plan)
plan_held h = on_plan O.none h (λ r M. some (r, M))

-- ---- the answer, and the bytes lent
-- "Only which rival and which blocking pair is open; what holds of them is said above." W-201 has closed the second. W-209: "Which spreading is
-- open." W-211: "one choice that reaches it (which one is open)".
pub record Choices : Type 0 where
  pub rival_of : Instance → Plan → Plan
  pub rival_holds : (r : Roster) → T (fits r) → (M : Plan) → M ∈ plans_of (instance_of r)
      → T (not (is_strong (verdict_of (instance_of r) M))) → Rival (instance_of r) M (rival_of (instance_of r) M)
  pub days_of : Instance → Plan → List ℕ
  pub days_hold : (r : Roster) → T (fits r) → (M : Plan) → M ∈ plans_of (instance_of r) → Sheet (instance_of r) M (days_of (instance_of r) M)
  pub choice_of : Roster → Question → List ℕ
  pub choice_holds : (r : Roster) → T (fits r) → (first second ranges : List ℕ) → T (is_bytes first) → T (is_bytes second)
      → (q : Question) → read_question r first second ranges ≡ accepted q
      → Least r q.ranges q.first q.second (vote_of (ranked r (choice_of r q)) q.first q.second) (choice_of r q)

module _ (ch : Choices) where
  -- the finder on a roster: its answer, and the bytes lent
  abbrev pub found_on : Roster → Answer finds
  found_on r = let G = instance_of r in found_answer (length (steps_of G)) (finder_of G (ch.rival_of G))

  -- a call's buffers after the finder on a roster
  abbrev pub found_bytes : Lends → Roster → Lends
  found_bytes call r = let G = instance_of r in found_written call G (finder_of G (ch.rival_of G))

  -- W-202: "they answer and write there exactly what the finder, called afresh on the changed roster, does, rival included"
  abbrev pub changed_answer : Reading Roster → Answer finds
  changed_answer (accepted r) = found_on r
  changed_answer (reading.refused n) = refusal n

  -- a call's buffers after a change: as after the finder on the changed roster; a refusal changes no byte
  abbrev pub changed_bytes : Lends → Reading Roster → Lends
  changed_bytes call (accepted r) = found_bytes call r
  changed_bytes call (reading.refused n) = call

  -- W-211: the least vote and the choice that reaches it
  abbrev pub least_answer : Roster → Reading Question → Answer bounds
  least_answer r (accepted q) = said (least_vote (vote_of (ranked r (ch.choice_of r q)) q.first q.second) (length (ch.choice_of r q)))
  least_answer r (reading.refused n) = refusal n

  -- the buffer afterwards: the choice's rank bytes at its front; a refusal changes no byte
  abbrev pub least_onto : Roster → Reading Question → List ℕ → List ℕ
  least_onto r (accepted q) w = onto (ch.choice_of r q) w
  least_onto r (reading.refused n) w = w

  -- a call that the state lets pass
  abbrev pub answer_on : Held → {k : Topic} → Call k → Answer k
  answer_on h (load_roster file) = loaded_roster (read_roster file)
  answer_on h (load_plan file) = on_roster (refusal 13) h (λ r. loaded_plan (read_plan (instance_of r) file))
  answer_on h (join q f d l p v) = on_roster (refusal 13) h (λ r. changed_answer (join_on r q f))
  answer_on h (leave s d l p v) = on_roster (refusal 13) h (λ r. changed_answer (leave_on r s))
  answer_on h (propose a f k) = on_plan (refusal 14) h (λ r M. let G = instance_of r in proposal_answer G M (read_plan G a))
  answer_on h commit = said committed
  answer_on h (asks (A.write_roster_to b)) = on_roster (refusal 13) h (λ r. said (wrote (length (write_roster r))))
  answer_on h (asks (A.write_plan_to b)) = on_plan (refusal 14) h (λ r M. said (wrote (length (plan_bytes (instance_of r) M))))
  answer_on h (asks (A.find d l p v)) = on_roster (refusal 13) h found_on
  answer_on h (asks (A.judge v f)) = on_plan (refusal 14) h (λ r M. let G = instance_of r in verdict_answer G M (ch.rival_of G M) (verdict_of G M))
  answer_on h (asks (A.compare a b f k)) = on_roster (refusal 13) h (λ r. comparison_answer (comparison_of (instance_of r) a b))
  answer_on h (asks A.blocking) = on_plan (refusal 14) h (λ r M. let G = instance_of r in blocking_answer G (top_blocking G (on M)) (some_blocks G (on M)))
  answer_on h (asks (A.plan_to_new f b)) = on_roster (refusal 13) h (λ r. converted_answer (S.plan_to_new (instance_of r) f))
  answer_on h (asks (A.plan_to_old f b)) = on_roster (refusal 13) h (λ r. converted_answer (S.plan_to_old (instance_of r) f))
  answer_on h (asks (A.spread b)) = on_plan (refusal 14) h (λ r M. said (wrote (length (ch.days_of (instance_of r) M))))
  answer_on h (asks (A.least a b c w)) = on_roster (refusal 13) h (λ r. least_answer r (read_question r a b c))
  answer_on h (asks A.holds) = said (holding (level_of h))
  answer_on h (asks (A.write_proposal_to b)) = on_proposal (refusal 20) h (λ r N. said (wrote (length (plan_bytes (instance_of r) N))))

  -- what is lent to a call that the state lets pass, as it is afterwards
  abbrev pub lent_on : Held → {k : Topic} → Call k → Call k
  lent_on h (load_roster file) = load_roster file
  lent_on h (load_plan file) = load_plan file
  lent_on h (join q f d l p v) = on_roster (join q f d l p v) h (λ r. changed_bytes (join q f) (join_on r q f) d l p v)
  lent_on h (leave s d l p v) = on_roster (leave s d l p v) h (λ r. changed_bytes (leave s) (leave_on r s) d l p v)
  lent_on h (propose a f k) =
      on_plan (propose a f k) h (λ r M. let G = instance_of r in pairings_onto (propose a) (proposal_pairings G M (read_plan G a)) f k)
  lent_on h commit = commit
  lent_on h (asks (A.write_roster_to b)) = on_roster (write_roster_to b) h (λ r. write_roster_to (onto (write_roster r) b))
  lent_on h (asks (A.write_plan_to b)) = on_plan (write_plan_to b) h (λ r M. write_plan_to (onto (plan_bytes (instance_of r) M) b))
  lent_on h (asks (A.find d l p v)) = on_roster (find d l p v) h (λ r. found_bytes find r d l p v)
  lent_on h (asks (A.judge v f)) = on_plan (judge v f) h (λ r M. let G = instance_of r in verdict_written G M (ch.rival_of G M) (verdict_of G M) v f)
  lent_on h (asks (A.compare a b f k)) = on_roster (compare a b f k) h (λ r. pairings_onto (compare a b) (C.pairings_of (instance_of r) a b) f k)
  lent_on h (asks A.blocking) = blocking
  lent_on h (asks (A.plan_to_new f b)) = on_roster (plan_to_new f b) h (λ r. plan_to_new f (converted_onto (S.plan_to_new (instance_of r) f) b))
  lent_on h (asks (A.plan_to_old f b)) = on_roster (plan_to_old f b) h (λ r. plan_to_old f (converted_onto (S.plan_to_old (instance_of r) f) b))
  lent_on h (asks (A.spread b)) = on_plan (spread b) h (λ r M. spread (onto (ch.days_of (instance_of r) M) b))
  lent_on h (asks (A.least a b c w)) = on_roster (least a b c w) h (λ r. least a b c (least_onto r (read_question r a b c) w))
  lent_on h (asks A.holds) = holds
  lent_on h (asks (A.write_proposal_to b)) = on_proposal (write_proposal_to b) h (λ r N. write_proposal_to (onto (plan_bytes (instance_of r) N) b))

  -- "13, 14, 15 come first", 20 among them
  unfoldable pub answer_of : Held → {k : Topic} → Call k → Answer k
  answer_of h c = cond (ltb 0 (state_refusal h c)) (refusal (state_refusal h c)) (answer_on h c)

  -- what is lent to a call, as it is afterwards; where the state refuses the call, as it was
  unfoldable pub lent_after : Held → {k : Topic} → Call k → Call k
  lent_after h c = cond (ltb 0 (state_refusal h c)) c (lent_on h c)

-- ---- what the desk holds afterwards
-- "Loading a roster drops the plan"; "a refusal changes no byte of any buffer nor the desk" (demand 1). W-207: "Loading a roster or a plan (..)
-- closes it"
abbrev pub with_roster : Held → Reading Roster → Held
with_roster h (accepted r) = roster r
with_roster h (reading.refused n) = h

-- a plan's load: it is held with the roster, and no proposal is open; a refusal leaves the desk alike
abbrev pub with_plan : Held → Roster → Reading Plan → Held
with_plan h r (accepted M) = planned r M
with_plan h r (reading.refused n) = h

-- "A later proposal replaces the open one"; the held plan stays
abbrev pub with_proposal : Held → Roster → Plan → Reading Plan → Held
with_proposal h r M (accepted N) = proposed r M N
with_proposal h r M (reading.refused n) = h

-- W-202: the changed roster, and the held plan less the pairs that it no longer has. W-207: "joining, or a leaving that changes the roster
-- closes it"; a leaving that changes nothing leaves it open.
abbrev pub with_change : (closes : Bool) → Held → Reading Roster → Held
with_change closes h (reading.refused n) = h
with_change closes nothing (accepted r') = nothing
with_change closes (roster r) (accepted r') = roster r'
with_change closes (planned r M) (accepted r') = planned r' (carried (instance_of r) (instance_of r') M)
with_change true (proposed r M N) (accepted r') = planned r' (carried (instance_of r) (instance_of r') M)
with_change false (proposed r M N) (accepted r') = proposed r' (carried (instance_of r) (instance_of r') M) N

-- "a commit makes it the held plan and closes it"
abbrev pub with_commit : Held → Held
with_commit nothing = nothing
with_commit (roster r) = roster r
with_commit (planned r M) = planned r M
with_commit (proposed r M N) = planned r N

-- a call that only asks leaves the desk alike
abbrev pub desk_on : Held → {k : Topic} → Call k → Held
desk_on h (load_roster file) = with_roster h (read_roster file)
desk_on h (load_plan file) = on_roster h h (λ r. with_plan h r (read_plan (instance_of r) file))
desk_on h (join q f d l p v) = on_roster h h (λ r. with_change true h (join_on r q f))
desk_on h (leave s d l p v) = on_roster h h (λ r. with_change (not (gone r s)) h (leave_on r s))
desk_on h (propose a f k) = on_plan h h (λ r M. with_proposal h r M (read_plan (instance_of r) a))
desk_on h commit = with_commit h
desk_on h (asks a) = h

-- so does a refusal by the state
unfoldable pub desk_after : Held → {k : Topic} → Call k → Held
desk_after h c = cond (ltb 0 (state_refusal h c)) h (desk_on h c)
