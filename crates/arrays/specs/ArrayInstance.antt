-- The instance and the sets of edges that plain arrays show: how code that computes with arrays is tied to the model. An array shows
-- 0 or false beyond what is written in it, as the model's instance does beyond its edges, so that what is shown is the model's
-- instance itself, at every number.
use Rattle.std.specs.Prelude.{ℕ, Bool, false, List, get_or}
use Rattle.model.specs.Instance.{Instance}

-- an array's entry at a position, 0 beyond its end
abbrev pub at : List ℕ → ℕ → ℕ
at xs e = get_or xs e 0

-- the same of an array of flags, false beyond its end
abbrev pub flag : List Bool → ℕ → Bool
flag xs e = get_or xs e false

-- edges: surveyor, stand, rank at each, shift, tied; nodes: quotas
abbrev pub shown : (m ns nt : ℕ) (sv st rank_s rank_t sh : List ℕ) (tied : List Bool) (quota_s quota_t : List ℕ) → Instance
shown m ns nt sv st rank_s rank_t sh tied quota_s quota_t = record {
  m = m;
  ns = ns;
  nt = nt;
  sv = at sv;
  st = at st;
  sh = at sh;
  rank_s = at rank_s;
  rank_t = at rank_t;
  tied = flag tied;
  quota_s = at quota_s;
  quota_t = at quota_t;
}
