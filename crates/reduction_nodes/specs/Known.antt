-- What the arrays of a run are to the model: the lawful instance and the state that they show.
use Rattle.std.specs.Prelude.{ℕ, ◌≤◌, Bool, List}
use Rattle.model.specs.Limits.{entry_limit, node_limit}
use Rattle.model.specs.Instance.{Instance}
use Rattle.model.specs.Reduction.{State}
use Rattle.theory_instance.specs.Lawful.{Lawful}
use Rattle.arrays.specs.ArrayInstance.{flag, shown}
use Rattle.arrays.specs.Passes.{Low}

-- the edges: ends and ranks
pub record Edges : Type 0 where
  pub m : ℕ
  pub sv : List ℕ
  pub st : List ℕ
  pub rs : List ℕ
  pub rt : List ℕ

-- the edges with the quotas, and the ties, the numbers of nodes and the shifts, which no rule looks at: a lawful instance
pub record Known (A : Edges) (quota_s quota_t : List ℕ) : Type 0 where
  pub ns : ℕ
  pub nt : ℕ
  pub sh : List ℕ
  pub tied : List Bool
  pub law : Lawful (shown A.m ns nt A.sv A.st A.rs A.rt sh tied quota_s quota_t)
  pub size : A.m ≤ entry_limit
  pub fit_s : Low A.m A.sv node_limit
  pub fit_t : Low A.m A.st node_limit

-- the instance itself
abbrev pub instance_of : {A : Edges} {quota_s quota_t : List ℕ} → Known A quota_s quota_t → Instance
instance_of {A} {quota_s} {quota_t} K = shown A.m K.ns K.nt A.sv A.st A.rs A.rt K.sh K.tied quota_s quota_t

-- the state whose quotas are k_s, k_t
abbrev pub state_of : (rem fixed : List Bool) (k_s k_t : ℕ → ℕ) → State
state_of rem fixed k_s k_t = record { rem = flag rem; fixed = flag fixed; q_s = k_s; q_t = k_t }
