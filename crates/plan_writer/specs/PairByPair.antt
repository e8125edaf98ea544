-- One pair more behind those that are written, by a list of edges or by flags, and the whole front.
use Rattle.std.specs.Prelude.{ℕ, suc, ◌+◌, ◌*◌, ◌≤◌, ◌<◌, ◌≡◌, refl, Bool, true, false, not, cond, List, [], ◌∷◌, ◌++◌, length, take, drop, set}
use Rattle.std.proofs.Common.{arith, add-one, sym, ap, ap₂, ◌∙◌, subst, append_assoc, append-nil, length-append, length-take, take-append-drop, take-suc}
use Rattle.lists.specs.Ranges.{gather_append, keep_last}
use Rattle.model.specs.Limits.{pair_width, plan_size}
use Rattle.model.specs.Plans.{on}
use Rattle.model.specs.PlanFile.{edges_in, plan_bytes_by, plan_bytes}
use Rattle.model_desk.specs.Desk.{onto}
use Rattle.theory_files.specs.Chosen.{edges_in_cong}
use Rattle.arrays.specs.ArrayInstance.{at, flag, shown}
use Rattle.arrays.specs.Kept.{keep_few}
use Rattle.pair_bytes.specs.PairAt.{pair_of, with_pair, with_length, pair_behind}
use Rattle.plan_lookup.specs.PlanEdges.{Listed, listed_below}
use Rattle.plan_writer.specs.Written.{pairs_of, WrittenFor, Writable}

pairs_length : (sv st sh es : List ℕ) → length (pairs_of sv st sh es) ≡ pair_width * length es
pairs_length sv st sh [] = refl
pairs_length sv st sh (e ∷ es) = omega (arith, pairs_length sv st sh es)

module _ (sv st sh : List ℕ) (from : ℕ) (d : List ℕ) where
  -- the buffer d with the pairs of some edges from a place on
  abbrev pub Put : List ℕ → List ℕ → Type 0
  Put es o = (o ≡ (take from d ++ pairs_of sv st sh es) ++ drop (pair_width * length es + from) d) × (length o ≡ length d)

  -- nothing is written yet
  pub put_none : Put [] d
  put_none =
      let z : from ≡ pair_width * 0 + from = omega arith in
      (sym (take-append-drop from d) ∙ ap₂ (λ l n. l ++ drop n d) (sym (append-nil (take from d))) z, refl)

  -- one pair more behind those of the edges es
  pub put_one : (es o : List ℕ) (e k : ℕ) → k ≡ length es → pair_width * k + from + pair_width ≤ length d → Put es o → {o' : List ℕ}
      → o' ≡ with_pair o (pair_width * k + from) (at sv e) (at st e) (at sh e) → Put (es ++ e ∷ []) o'
  put_one es o e k count room (so, long) w = (
    w ∙ ap₂ (λ z n. with_pair z n (at sv e) (at st e) (at sh e)) so place
        ∙ pair_behind (take from d ++ pairs_of sv st sh es) d (pair_width * length es + from) (at sv e) (at st e) (at sh e) front_length (omega arith)
        ∙ ap₂ (λ z n. z ++ drop n d) grown after,
    ap length w ∙ with_length o (pair_width * k + from) (at sv e) (at st e) (at sh e) ∙ long,
  )
    where
      place : pair_width * k + from ≡ pair_width * length es + from
      place = ap (λ n. pair_width * n + from) count

      front_length : length (take from d ++ pairs_of sv st sh es) ≡ pair_width * length es + from
      front_length = omega (arith, length-append (take from d) (pairs_of sv st sh es), length-take from d, pairs_length sv st sh es)

      after : pair_width * length es + from + pair_width ≡ pair_width * length (es ++ e ∷ []) + from
      after = omega (arith, length-append es (e ∷ []))

      grown : (take from d ++ pairs_of sv st sh es) ++ pair_of (at sv e) (at st e) (at sh e) ≡ take from d ++ pairs_of sv st sh (es ++ e ∷ [])
      grown = append_assoc (take from d) (pairs_of sv st sh es) (pair_of (at sv e) (at st e) (at sh e))
          ∙ ap (λ z. take from d ++ z) (sym (gather_append (λ e. pair_of (at sv e) (at st e) (at sh e)) es (e ∷ [])))

-- ---- by flags, from the front on
module _ (sv st sh : List ℕ) (chosen : List Bool) (d : List ℕ) (e k : ℕ) (o : List ℕ) (count : k ≡ length (edges_in e (flag chosen)))
    (so : Put sv st sh 0 d (edges_in e (flag chosen)) o) where
  next : (b : Bool) → flag chosen e ≡ b → edges_in (e + 1) (flag chosen) ≡ edges_in e (flag chosen) ++ cond b (e ∷ []) []
  next b q = ap (λ n. edges_in n (flag chosen)) (add-one e) ∙ keep_last (flag chosen) e ∙ ap (λ b. edges_in e (flag chosen) ++ cond b (e ∷ []) []) q

  -- an edge that is not chosen changes nothing
  pub turn_not : flag chosen e ≡ false → (k ≡ length (edges_in (e + 1) (flag chosen))) × Put sv st sh 0 d (edges_in (e + 1) (flag chosen)) o
  turn_not q = let s = sym (next false q ∙ append-nil (edges_in e (flag chosen))) in (count ∙ ap length s, subst (λ z. Put sv st sh 0 d z o) s so)

  -- one that is chosen: there is room for its pair
  pub room_for : (m : ℕ) → e < m → flag chosen e ≡ true → pair_width * length (edges_in m (flag chosen)) ≤ length d → pair_width * k + pair_width ≤ length d
  room_for m h q few = omega (
    arith,
    keep_few (flag chosen) (e + 1) m (omega arith),
    ap length (next true q),
    length-append (edges_in e (flag chosen)) (e ∷ []),
  )

  -- and it is written
  pub turn_one : flag chosen e ≡ true → pair_width * k + pair_width ≤ length d → {o' : List ℕ}
      → o' ≡ with_pair o (pair_width * k) (at sv e) (at st e) (at sh e)
      → (k + 1 ≡ length (edges_in (e + 1) (flag chosen))) × Put sv st sh 0 d (edges_in (e + 1) (flag chosen)) o'
  turn_one q l {o'} w = let z : pair_width * k ≡ pair_width * k + 0 = omega arith in (
    omega (arith, ap length (next true q), length-append (edges_in e (flag chosen)) (e ∷ [])),
    subst (λ z. Put sv st sh 0 d z o') (sym (next true q))
        (put_one sv st sh 0 d (edges_in e (flag chosen)) o e k count (omega arith) so (w ∙ ap (λ n. with_pair o n (at sv e) (at st e) (at sh e)) z)),
  )

-- all of them
pub pairs_onto : (sv st sh es d o : List ℕ) → Put sv st sh 0 d es o → o ≡ onto (pairs_of sv st sh es) d
pairs_onto sv st sh es d o (so, long) =
    so ∙ ap (λ n. pairs_of sv st sh es ++ drop n d)
    (let e : pair_width * length es + 0 ≡ length (pairs_of sv st sh es) = omega (arith, pairs_length sv st sh es) in e)

pub not_yes : (b : Bool) → not b ≡ true → b ≡ false
not_yes true q = sym q
not_yes false q = refl

pub not_no : (b : Bool) → not b ≡ false → b ≡ true
not_no true q = refl
not_no false q = sym q

-- ---- by a list, behind the count
-- one edge of the list more
pub list_one : (sv st sh d es o : List ℕ) (k : ℕ) → k < length es → pair_width * k + 1 + pair_width ≤ length d → Put sv st sh 1 d (take k es) o → {o' : List ℕ}
    → o' ≡ with_pair o (pair_width * k + 1) (at sv (at es k)) (at st (at es k)) (at sh (at es k)) → Put sv st sh 1 d (take (k + 1) es) o'
list_one sv st sh d es o k h room so {o'} w =
    subst (λ z. Put sv st sh 1 d z o') (sym (ap (λ n. take n es) (add-one k) ∙ take-suc es k 0 h))
    (put_one sv st sh 1 d (take k es) o (at es k) k (omega (arith, length-take k es)) room so w)

-- the whole front: the count in the first place
whole_front : (d : List ℕ) (ps : List ℕ) (k : ℕ) → 1 ≤ length d → length ps ≡ pair_width * k
    → set ((take 1 d ++ ps) ++ drop (pair_width * k + 1) d) 0 k ≡ (k ∷ ps) ++ drop (length (k ∷ ps)) d
whole_front [] ps k h l = absurd (omega arith)
whole_front (x ∷ d) ps k h l = ap (λ n. (k ∷ ps) ++ drop n (x ∷ d)) (same k (length ps) l)
  where
    same : (k n : ℕ) → n ≡ pair_width * k → pair_width * k + 1 ≡ suc n
    same k n l = omega arith

-- the list's edges are the plan's
pub written : (m : ℕ) (sv st sh : List ℕ) (chosen : List Bool) (n : ℕ) (es before o : List ℕ) → plan_size ≤ length before → Listed m chosen n es
    → Put sv st sh 1 before (take n es) o → WrittenFor m sv st sh chosen before (set o 0 n)
unfolding plan_bytes_by
written m sv st sh chosen n es before o h L (so, long) ns nt rank_s rank_t tied quota_s quota_t M same =
    let fs = edges_in m (flag chosen) in
    let count : length fs ≡ n = omega (arith, ap length L.are, length-take n es, L.there) in
    let bs : plan_bytes (shown m ns nt sv st rank_s rank_t sh tied quota_s quota_t) M ≡ n ∷ pairs_of sv st sh fs
    = ap (λ z. length z ∷ pairs_of sv st sh z) (edges_in_cong m (on M) (flag chosen) same) ∙ ap (λ k. k ∷ pairs_of sv st sh fs) count in
    let l : length (pairs_of sv st sh fs) ≡ pair_width * n = pairs_length sv st sh fs ∙ ap (λ k. pair_width * k) count in
    ap (λ z. set z 0 n)
    (so ∙ ap (λ z. (take 1 before ++ pairs_of sv st sh z) ++ drop (pair_width * length z + 1) before) L.are
    ∙ ap (λ k. (take 1 before ++ pairs_of sv st sh fs) ++ drop (pair_width * k + 1) before) count)
    ∙ whole_front before (pairs_of sv st sh fs) n (omega arith) l ∙ ap (λ z. onto z before) (sym bs)

-- each edge of the list is one, with its ends
pub listed_edge : (m : ℕ) (sv st : List ℕ) (chosen : List Bool) (n : ℕ) (es : List ℕ) → Writable m sv st chosen n es → (k : ℕ) → k < n
    → (at es k < 1024) × (at sv (at es k) < 32) × (at st (at es k) < 32)
listed_edge m sv st chosen n es W k h =
    let l = listed_below m chosen n es W.list k h in (omega (arith, W.edges, l), W.low_sv (at es k) l, W.low_st (at es k) l)
