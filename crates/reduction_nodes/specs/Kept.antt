-- What a run keeps by node beside its state: for rules 1 and 2 the lowest edge that they name at each node, and for the later rules the same at each
-- node that is not marked old. All of it speaks of the arrays alone. The later numbers of surveyors are those of the stored looseness of stands.
use Rattle.std.specs.Prelude.{not, ℕ, ◌<◌, ◌≡◌, refl, Bool, true, false, cond, ◌&&◌, List, length, get_or, replicate, T}
use Rattle.std.proofs.Common.{sym, ap, ◌∙◌, subst, lt-ltb}
use Rattle.std.proofs.lemmas.List.{get_or-replicate}
use Rattle.std.proofs.lemmas.Bool.{not-false}
use Rattle.std.proofs.lemmas.Slice.Eq.{slice_eq-Decides}
use Rattle.std.specs.Cmp.{booleans_Decides}
use lib.Pointwise.{pointwise}
use mathlib.Core.Bool.{beq}
use Rattle.lists.specs.Test.{by_bool, given}
use Rattle.model.specs.Limits.{entry_limit, node_limit, empty_rank}
use Rattle.model.specs.Instance.{surveyors, stands}
use Rattle.arrays.specs.ArrayInstance.{at, flag}
use Rattle.arrays.specs.Passes.{Low, all_blank}
use Rattle.reduction_lists.specs.Listed.{Listed}
use Rattle.reduction_cells.specs.Cells.{Celled, Spread, Owned}
use Rattle.reduction_cells.specs.CellLaws.{Cells, celled_is}
use Rattle.reduction_nodes.specs.declared.Surveyor.{Surveyor}
use Rattle.reduction_nodes.specs.declared.Stand.{Stand}
use Rattle.reduction_nodes.specs.declared.EdgeTables.{EdgeTables}
use Rattle.reduction_nodes.specs.declared.LateNumbers.{LateNumbers}
use Rattle.reduction_nodes.specs.Known.{Edges, Known, instance_of}
use Rattle.reduction_nodes.specs.Renewed.{Renewed}
use Rattle.reduction_nodes.specs.Numbers.{Readable, first_of, seconds_of, surveyors_of, stands_of, Surveyors, Stands}
use Rattle.reduction_nodes.specs.Numbers.{Rows, surveyor_numbers, stand_numbers, Surveyed, Stood}
use Rattle.reduction_nodes.specs.Local.{surveyor_local}

-- ---- the tables of the edges, made once: cells and lists of both sides
pub record NodeLists : Type 0 where
  pub table_s : List ℕ
  pub table_t : List ℕ

-- what reading them needs: lists of the ends, and cells that hold a node's own edges
pub record Tables (A : Edges) (L : NodeLists) : Type 0 where
  pub fit_s : Low A.m A.sv node_limit
  pub fit_t : Low A.m A.st node_limit
  pub placed_s : Low A.m A.rs empty_rank
  pub placed_t : Low A.m A.rt empty_rank
  pub listed_s : Listed A.m A.sv L.table_s
  pub listed_t : Listed A.m A.st L.table_t
  pub spread_s : Spread A.m L.table_s
  pub spread_t : Spread A.m L.table_t
  pub owned_s : Owned A.m A.sv L.table_s
  pub owned_t : Owned A.m A.st L.table_t

-- so both can be read
pub readable_s : {A : Edges} {L : NodeLists} → Tables A L → Readable A.m L.table_s
readable_s D = record { cells = D.spread_s; lists = (_, D.listed_s) }

-- the stands' one
pub readable_t : {A : Edges} {L : NodeLists} → Tables A L → Readable A.m L.table_t
readable_t D = record { cells = D.spread_t; lists = (_, D.listed_t) }

-- no edge is tied, as at surveyors
abbrev pub untied : List Bool
untied = replicate entry_limit false

-- what they are to the model: the cells hold every strict edge
pub record Filled (A : Edges) (tied : List Bool) (L : NodeLists) : Type 0 where
  pub celled_s : Celled A.m A.sv A.rs untied L.table_s
  pub celled_t : Celled A.m A.st A.rt tied L.table_t

-- in a lawful instance they are the cells of the model's sides
pub cells_s : {A : Edges} {quota_s quota_t : List ℕ} (K : Known A quota_s quota_t) {L : NodeLists} → Filled A K.tied L
    → Cells (surveyors (instance_of K)) L.table_s
cells_s {A} {quota_s} K {L} F = celled_is A.m K.ns A.sv A.rs untied (λ e. false) (at quota_s) L.table_s
    (λ e. sym (all_blank false entry_limit e)) K.fit_s F.celled_s K.law.at_s

-- the stands' cells
pub cells_t : {A : Edges} {quota_s quota_t : List ℕ} (K : Known A quota_s quota_t) {L : NodeLists} → Filled A K.tied L
    → Cells (stands (instance_of K)) L.table_t
cells_t {A} {quota_t} K {L} F = celled_is A.m K.nt A.st A.rt K.tied (flag K.tied) (at quota_t) L.table_t (λ e. refl) K.fit_t
    F.celled_t K.law.at_t

-- ---- the arrays of a state that the rules look at: what remains, the arrows, the cut quotas
pub record Looks : Type 0 where
  pub rem : List Bool
  pub fs : List Bool
  pub ft : List Bool
  pub qs : List ℕ
  pub qt : List ℕ

-- from the arrays themselves
abbrev pub edges : (m : ℕ) (sv st rs rt : List ℕ) → Edges
edges m sv st rs rt = record { m = m; sv = sv; st = st; rs = rs; rt = rt }

-- the tables, from the arrays
abbrev pub node_lists : (ts tu : List ℕ) → NodeLists
node_lists ts tu = record { table_s = ts; table_t = tu }

-- the same of the tables that a run makes
abbrev pub tables_of : EdgeTables → NodeLists
tables_of T = node_lists T.surveyors T.stands

-- what the rules look at, from the arrays
abbrev pub looks : (rem fs ft : List Bool) (qs qt : List ℕ) → Looks
looks rem fs ft qs qt = record { rem = rem; fs = fs; ft = ft; qs = qs; qt = qt }

-- the later numbers, and at which nodes they are old
pub record Later : Type 0 where
  pub surveyors : Surveyors
  pub stands : Stands
  pub olds : List Bool
  pub oldt : List Bool

-- the later numbers, from the arrays
abbrev pub later : (lates latet : List (List ℕ)) (loose olds oldt : List Bool) → Later
later lates latet loose olds oldt = record { surveyors = surveyor_numbers lates; stands = stand_numbers latet loose; olds = olds; oldt = oldt }

-- their sizes
pub record SizedL (lates latet : List (List ℕ)) (loose olds oldt : List Bool) : Type 0 where
  pub surveyors : Rows 3 lates
  pub stands : Rows 2 latet
  pub size_l : length loose ≡ node_limit
  pub size_s : length olds ≡ node_limit
  pub size_t : length oldt ≡ node_limit

-- both of the numbers that a run carries
abbrev pub later_of : LateNumbers → Later
later_of x = later x.surveyors x.stands x.loose x.due.surveyors x.due.stands

-- the arrays of the late numbers have their sizes
abbrev pub SizedLate : LateNumbers → Type 0
SizedLate x = SizedL x.surveyors x.stands x.loose x.due.surveyors x.due.stands

-- the numbers of one node, of all nodes of a side
abbrev pub surveyor_at : Surveyors → ℕ → Surveyor
surveyor_at x v = record { rule4 = at x.rule4 v; rule5 = at x.rule5 v; rule6 = at x.rule6 v }

abbrev pub stand_at : Stands → ℕ → Stand
stand_at y v = record { rule3 = at y.rule3 v; rule7 = at y.rule7 v; loose = flag y.loose v }

module _ (A : Edges) (L : NodeLists) (X : Looks) where
  abbrev pub surveyor_now : (lo : List Bool) → ℕ → Surveyor
  surveyor_now lo = surveyors_of A.m A.sv A.st L.table_s X.rem X.fs X.ft lo X.qs

  abbrev pub stand_now : ℕ → Stand
  stand_now = stands_of A.m A.st L.table_t X.rem X.fs X.ft X.qt

  -- rule 1 by surveyor
  abbrev pub first_now : ℕ → ℕ
  first_now = first_of A.m A.sv X.fs X.ft

  -- rule 2 by surveyor
  abbrev pub second_s : ℕ → ℕ
  second_s = seconds_of A.m A.sv A.rs L.table_s X.rem X.ft X.qs

  -- rule 2 by stand
  abbrev pub second_t : ℕ → ℕ
  second_t = seconds_of A.m A.st A.rt L.table_t X.rem X.fs X.qt

  -- an array holds the numbers of a rule
  abbrev pub Holds : List ℕ → (ℕ → ℕ) → Type 0
  Holds xs now = (v : ℕ) → v < node_limit → at xs v ≡ now v

  -- the numbers of rules 1 and 2 are those of the arrays
  pub record Leads (one twoS twoT : List ℕ) : Type 0 where
    pub first : Holds one first_now
    pub at_s : Holds twoS second_s
    pub at_t : Holds twoT second_t

  -- the later numbers are those of the arrays, where they are not old
  pub record Lates (x : Later) : Type 0 where
    pub stand : (v : ℕ) → v < node_limit → flag x.oldt v ≡ false → stand_at x.stands v ≡ stand_now v
    pub surveyor : (v : ℕ) → v < node_limit → flag x.olds v ≡ false → surveyor_at x.surveyors v ≡ surveyor_now x.stands.loose v

  -- nothing is old
  pub record Fresh (x : Later) : Type 0 where
    pub lates : Lates x
    pub none_s : (v : ℕ) → v < node_limit → flag x.olds v ≡ false
    pub none_t : (v : ℕ) → v < node_limit → flag x.oldt v ≡ false

-- ---- renewed numbers
renewed_at : {B : Type 0} (d : B) (due : List Bool) (new : ℕ → B) (old xs : List B) → Renewed d due new old node_limit xs → (v : ℕ) → v < node_limit
    → (b : Bool) → flag due v ≡ b → get_or xs v d ≡ cond b (new v) (get_or old v d)
renewed_at d due new old xs R v w b t =
    R v ∙ ap (λ a. cond (a && flag due v) (new v) (get_or old v d)) (lt-ltb v node_limit w) ∙ ap (λ b. cond b (new v) (get_or old v d)) t

stood_at : (new : ℕ → Stand) (due : List Bool) (x y : Stands) → Stood new due x node_limit y → (v : ℕ) → v < node_limit → (b : Bool) → flag due v ≡ b
    → stand_at y v ≡ cond b (new v) (stand_at x v)
stood_at new due x y S v w true t = λ k. record {
  rule3 = renewed_at 0 due (λ v. (new v).rule3) x.rule3 y.rule3 S.rule3 v w true t k;
  rule7 = renewed_at 0 due (λ v. (new v).rule7) x.rule7 y.rule7 S.rule7 v w true t k;
  loose = renewed_at false due (λ v. (new v).loose) x.loose y.loose S.loose v w true t k;
}
stood_at new due x y S v w false t = λ k. record {
  rule3 = renewed_at 0 due (λ v. (new v).rule3) x.rule3 y.rule3 S.rule3 v w false t k;
  rule7 = renewed_at 0 due (λ v. (new v).rule7) x.rule7 y.rule7 S.rule7 v w false t k;
  loose = renewed_at false due (λ v. (new v).loose) x.loose y.loose S.loose v w false t k;
}

surveyed_at : (new : ℕ → Surveyor) (due : List Bool) (x y : Surveyors) → Surveyed new due x node_limit y → (v : ℕ) → v < node_limit → (b : Bool)
    → flag due v ≡ b → surveyor_at y v ≡ cond b (new v) (surveyor_at x v)
surveyed_at new due x y S v w true t = λ k. record {
  rule4 = renewed_at 0 due (λ v. (new v).rule4) x.rule4 y.rule4 S.rule4 v w true t k;
  rule5 = renewed_at 0 due (λ v. (new v).rule5) x.rule5 y.rule5 S.rule5 v w true t k;
  rule6 = renewed_at 0 due (λ v. (new v).rule6) x.rule6 y.rule6 S.rule6 v w true t k;
}
surveyed_at new due x y S v w false t = λ k. record {
  rule4 = renewed_at 0 due (λ v. (new v).rule4) x.rule4 y.rule4 S.rule4 v w false t k;
  rule5 = renewed_at 0 due (λ v. (new v).rule5) x.rule5 y.rule5 S.rule5 v w false t k;
  rule6 = renewed_at 0 due (λ v. (new v).rule6) x.rule6 y.rule6 S.rule6 v w false t k;
}

-- what `!=` says of two arrays
pub same_flags : (a b : List Bool) (r : Bool) → r ≡ not (pointwise beq a b) → r ≡ false → a ≡ b
same_flags a b r q h = (slice_eq-Decides booleans_Decides a b (pointwise beq a b) refl).0 (not-false (pointwise beq a b) (sym q ∙ h))

-- ---- the old numbers made anew: first those of stands; where none is loose that was not, or the other way round, the surveyors' fresh ones stay
module _ (A : Edges) (L : NodeLists) (D : Tables A L) (X : Looks) (x : Later) (K : Lates A L X x) (y : Stands)
    (S : Stood (stand_now A L X) x.oldt x.stands node_limit y) where
  stands_fresh : (v : ℕ) → v < node_limit → stand_at y v ≡ stand_now A L X v
  stands_fresh v w = by_bool (flag x.oldt v) (λ t. stood_at (stand_now A L X) x.oldt x.stands y S v w true t)
      (λ t. stood_at (stand_now A L X) x.oldt x.stands y S v w false t ∙ K.stand v w t)

  -- which surveyors are read anew: all, if some stand's looseness turned
  module _ (turned : Bool) (kept : turned ≡ false → x.stands.loose ≡ y.loose) where
    abbrev pub touched : List Bool
    touched = cond turned (replicate node_limit true) x.olds

    untouched : (v : ℕ) → v < node_limit → flag touched v ≡ false → (flag x.olds v ≡ false)
        × ((u : ℕ) → u < node_limit → flag y.loose u ≡ flag x.stands.loose u)
    untouched v w h = go turned refl h
      where
        go : (b : Bool) → turned ≡ b → flag (cond b (replicate node_limit true) x.olds) v ≡ false
            → (flag x.olds v ≡ false) × ((u : ℕ) → u < node_limit → flag y.loose u ≡ flag x.stands.loose u)
        go true e h = absurd (subst T (sym (get_or-replicate node_limit v true false w) ∙ h) tt)
        go false e h = (h, λ u k. ap (λ f. flag f u) (sym (kept e)))

    fresh_then : (z : Surveyors) → Surveyed (surveyor_now A L X y.loose) touched x.surveyors node_limit z
        → Fresh A L X (record { surveyors = z; stands = y; olds = replicate node_limit false; oldt = replicate node_limit false })
    fresh_then z R = record {
      lates = record {
        stand = λ v w t. stands_fresh v w;
        surveyor = λ v w t. by_bool (flag touched v)
            (λ s. surveyed_at (surveyor_now A L X y.loose) touched x.surveyors z R v w true s)
            (λ s. given (untouched v w s) (λ (a, b). surveyed_at (surveyor_now A L X y.loose) touched x.surveyors z R v w false s ∙ K.surveyor v w a
            ∙ sym (surveyor_local A.m A.sv L.table_s D.owned_s v w A.st X.rem X.fs X.ft x.stands.loose
            X.rem X.fs X.ft y.loose (at X.qs v) (at X.qs v)
            (record { left = λ e l j. refl; from_s = λ e l j. refl; from_t = λ e l j. refl })
            (λ e l j. b (at A.st e) (D.fit_t e l)) refl)));
      };
      none_s = λ v w. get_or-replicate node_limit v false false w;
      none_t = λ v w. get_or-replicate node_limit v false false w;
    }

    -- the same of an array of flags that is as it was computed
    pub later_fresh : (due : List Bool) → due ≡ touched → (z : Surveyors) → Surveyed (surveyor_now A L X y.loose) due x.surveyors node_limit z
        → Fresh A L X (record { surveyors = z; stands = y; olds = replicate node_limit false; oldt = replicate node_limit false })
    later_fresh due q z R = fresh_then z (subst (λ s. Surveyed (surveyor_now A L X y.loose) s x.surveyors node_limit z) q R)
