-- What is claimed of a roster, as a test that the checker computes. A roster of which more is claimed than what is printed, and every plan file
-- in a claim, must be accepted. Surveyors and stands are counted from 0 here.
use Rattle.std.specs.Prelude.{ℕ, suc, Bool, true, false, ◌&&◌, List, [], ◌∷◌, map, eqb, ℤ}
use Prim.Native.String.{String}
use Rattle.std.specs.Int.Signed.{le_z}
use Rattle.lists.specs.Keep.{keep, all?}
use Rattle.model.specs.Decimal.{same_bytes}
use Rattle.model.specs.Text.{text}
use Rattle.model.specs.Reading.{Reading, accepted, refused}
use Rattle.model.specs.Roster.{Roster, alike}
use Rattle.model.specs.RosterFile.{read_roster}
use Rattle.model.specs.Edges.{instance_of}
use Rattle.model.specs.Instance.{Instance, stands}
use Rattle.model.specs.Vote.{node_vote, vote}
use Rattle.model.specs.Plans.{Plan, on, plans_of, Verdict, strong, popular, beaten, beaten_by, drawn_with, verdict_of, strong_count}
use Rattle.model.specs.Reduction.{cut_s, cut_t, begin}
use Rattle.model.specs.PlanFile.{plan_bytes, read_plan}
use Rattle.model.specs.Blocking.{some_blocks, top_blocking}
use Rattle.model.specs.Printed.{printed}

-- plans are given as plan files
pub data Claim : Type 0 where
  prints : String → Claim  -- the program's output: the diary and the answer with its plan, pairs or rival
  strong_ones : ℕ → Claim  -- how many strongly popular plans it has, by the votes
  votes : (first second : List ℕ) → ℤ → Claim  -- the vote of one plan against another
  stand_votes : ℕ → (first second : List ℕ) → ℤ → Claim  -- the same at one stand alone
  judged : List ℕ → Verdict → Claim  -- the verdict on a plan
  rivals : List ℕ → List (List ℕ) → Claim  -- all plans that may be named as its rival
  blocked : List ℕ → Bool → Claim  -- whether it has a blocking pair
  blocked_at : List ℕ → (surveyor stand shift : ℕ) → Claim  -- the numbers of the one that is named
  cut_to : ℕ → ℕ → Claim  -- a stand's quota as the first step cuts it
  surveyor_cut_to : ℕ → ℕ → Claim  -- a surveyor's

-- a roster's bytes, and what is claimed of them
pub record Case : Type 0 where
  pub file : List ℕ
  pub claims : List Claim

-- ---- equality, as tests
abbrev same_files : List (List ℕ) → List (List ℕ) → Bool
same_files [] [] = true
same_files [] (y ∷ ys) = false
same_files (x ∷ xs) [] = false
same_files (x ∷ xs) (y ∷ ys) = same_bytes x y && same_files xs ys

abbrev same_vote : ℤ → ℤ → Bool
same_vote v w = le_z v w && le_z w v

abbrev same_verdict : Verdict → Verdict → Bool
same_verdict strong strong = true
same_verdict strong popular = false
same_verdict strong beaten = false
same_verdict popular strong = false
same_verdict popular popular = true
same_verdict popular beaten = false
same_verdict beaten strong = false
same_verdict beaten popular = false
same_verdict beaten beaten = true

-- ---- the rivals that document 01 allows: those that beat M, and if there is none those that draw with it
abbrev otherwise : List Plan → List Plan → List Plan
otherwise [] Ns = Ns
otherwise (M ∷ Ms) Ns = M ∷ Ms

abbrev allowed : Instance → Plan → List Plan
allowed G M = otherwise (keep (beaten_by G M) (plans_of G)) (keep (drawn_with G M) (plans_of G))

-- the first of them; where a case prints a rival, it has one only
abbrev first_of : Plan → List Plan → Plan
first_of M [] = M
first_of M (N ∷ Ns) = N

abbrev some_rival : Instance → Plan → Plan
some_rival G M = first_of M (allowed G M)

-- ---- a claim about accepted bytes, and about accepted plan files
abbrev on_plan : Reading Plan → (Plan → Bool) → Bool
on_plan (accepted M) f = f M
on_plan (refused n) f = false

abbrev holds_of : Instance → Claim → Bool
holds_of G (prints s) = false
holds_of G (strong_ones n) = eqb (strong_count G) n
holds_of G (votes a b v) = on_plan (read_plan G a) (λ M. on_plan (read_plan G b) (λ N. same_vote (vote G (on M) (on N)) v))
holds_of G (stand_votes t a b v) = on_plan (read_plan G a) (λ M. on_plan (read_plan G b) (λ N. same_vote (node_vote (stands G) (on M) (on N) t) v))
holds_of G (judged a v) = on_plan (read_plan G a) (λ M. same_verdict (verdict_of G M) v)
holds_of G (rivals a bs) = on_plan (read_plan G a) (λ M. same_files (map (plan_bytes G) (allowed G M)) bs)
holds_of G (blocked a b) = on_plan (read_plan G a) (λ M. alike (some_blocks G (on M)) b)
holds_of G (blocked_at a s t k) =
    on_plan (read_plan G a) (λ M. let e = top_blocking G (on M) in eqb (suc (G.sv e)) s && (eqb (suc (G.st e)) t && eqb (G.sh e) k))
holds_of G (cut_to t q) = eqb (cut_t G (begin G) t) q
holds_of G (surveyor_cut_to s q) = eqb (cut_s G (begin G) s) q

abbrev on_roster : Reading Roster → Claim → Bool
on_roster (accepted r) c = holds_of (instance_of r) c
on_roster (refused n) c = false

abbrev holds : List ℕ → Claim → Bool
holds file (prints s) = same_bytes (printed some_rival file) (text s)
holds file (strong_ones n) = on_roster (read_roster file) (strong_ones n)
holds file (votes a b v) = on_roster (read_roster file) (votes a b v)
holds file (stand_votes t a b v) = on_roster (read_roster file) (stand_votes t a b v)
holds file (judged a v) = on_roster (read_roster file) (judged a v)
holds file (rivals a bs) = on_roster (read_roster file) (rivals a bs)
holds file (blocked a b) = on_roster (read_roster file) (blocked a b)
holds file (blocked_at a s t k) = on_roster (read_roster file) (blocked_at a s t k)
holds file (cut_to t q) = on_roster (read_roster file) (cut_to t q)
holds file (surveyor_cut_to s q) = on_roster (read_roster file) (surveyor_cut_to s q)

-- whether all that is claimed of a roster holds
abbrev pub is_true : Case → Bool
is_true c = all? (holds c.file) c.claims
