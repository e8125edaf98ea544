-- The four sections of a roster file, one behind the other, with the marks of both sides; and the file as a whole.
use Rattle.std.specs.Prelude.{ℕ, ◌+◌, ◌≤◌, ◌<◌, ◌≡◌, refl, Bool, true, false, cond, List, length, drop, get_or, T, leb}
use Rattle.std.proofs.Common.{arith, ◌∙◌, drop_of_length-le, get_or-drop, drop-cons, leb→le}
use Rattle.std.proofs.Math.Path.{sym, ap}
use Rattle.lists.specs.Test.{given, and_l}
use Rattle.model.specs.Limits.{node_limit}
use Rattle.model.specs.Reading.{Reading, accepted, ◌then◌, refused, whole}
use Rattle.model.specs.Roster.{Entry, Ranking, Roster, total_s, total_t, both_or_neither}
use Rattle.model.specs.RosterFile.{read_nodes, read_section, one_sided, read_roster_by}
use Rattle.theory_files.specs.Reads.{is_bytes}
use Rattle.theory_files.specs.Sections.{nodes, section as section-reads}
use Rattle.roster_reading.specs.Place.{placed, place_refused, place_read, read-not, refused-not-read, refusal_number}
use Rattle.roster_reading.specs.Layout.{layout_of, list_by, ranking_by, list_fit, ranking_fit, list_reads, ranking_reads}
use Rattle.roster_reading.specs.Row.{Marked}
use Rattle.roster_reading.specs.Table.{ListsShown, RankingsShown}
use Rattle.roster_reading.specs.Pairs.{both_alike, both_alike_law}

-- what is known of the nodes of a side, at a place of the file
pub record Nodes (f : List ℕ) (at next : ℕ) : Type 0 where
  pub quotas : List ℕ
  pub is : read_nodes (drop at f) ≡ accepted (quotas, drop next f)
  pub count : length quotas ≡ get_or f at 0
  pub few : length quotas ≤ node_limit
  pub room : at < next
  pub within : next ≤ length f

-- where the code has read the nodes of a side: their quotas, and that there are as many as the count byte says, at most 32
pub nodes_found : (f : List ℕ) (at : ℕ) {next : ℕ} → T (is_bytes f) → at ≤ length f → accepted next ≡ placed f (read_nodes (drop at f)) → Nodes f at next
nodes_found f at {next} is_b h e = given (place_read nodes f at is_b h e) (λ x.
    let z : at + 0 ≡ at = omega arith in
    record {
      quotas = x.value;
      is = x.is;
      count = sym (ap (λ bs. get_or bs 0 0) x.bytes) ∙ get_or-drop at f 0 0 ∙ ap (λ k. get_or f k 0) z;
      few = leb→le (length x.value) node_limit (and_l (leb (length x.value) node_limit) _ x.fits);
      room = omega (arith, x.size);
      within = x.within;
    })

-- ---- the file as a whole: the code answers its end, where it is accepted
abbrev pub closed : List ℕ → Reading Roster → Reading ℕ
closed f (accepted R) = accepted (length f)
closed f (refused n) = refused n

-- ---- in a layout, with shifts or without
module _ (shifts : Bool) where
  -- the two sections of lists, behind the nodes of both sides
  abbrev finish : (qs qt : List ℕ) → List (List Entry) → List Ranking → List ℕ → Reading (Roster × List ℕ)
  finish qs qt ls ts rest = accepted (record { quotas_s = qs; quotas_t = qt; lists_s = ls; lists_t = ts }, rest)

  abbrev rankings : (ns nt : ℕ) → List ℕ → Reading (List Ranking × List ℕ)
  rankings ns nt = read_section (ranking_by shifts ns) total_t nt

  abbrev lists : (ns nt : ℕ) → List ℕ → Reading (List (List Entry) × List ℕ)
  lists ns nt = read_section (list_by shifts nt) total_s ns

  abbrev pub read_lists : (qs qt : List ℕ) → List ℕ → Reading (Roster × List ℕ)
  read_lists qs qt rest = lists (length qs) (length qt) rest then (λ ls rest. rankings (length qs) (length qt) rest then finish qs qt ls)

  -- the code's answer for them: they stand behind nodes of so many
  abbrev pub ListsRead : (ns nt : ℕ) (f : List ℕ) (at : ℕ) (r : Reading ℕ) → Type 0
  ListsRead ns nt f at r = (qs qt : List ℕ) → length qs ≡ ns → length qt ≡ nt → r ≡ closed f (one_sided (whole (read_lists qs qt (drop at f))))

  module _ (ns nt : ℕ) (f : List ℕ) (at : ℕ) where
    -- with the counts as the code has them
    counted : (qs qt : List ℕ) → length qs ≡ ns → length qt ≡ nt
        → read_lists qs qt (drop at f) ≡ (lists ns nt (drop at f) then (λ ls rest. rankings ns nt rest then finish qs qt ls))
    counted qs qt a b = simp (a, b)

    -- a refusal of the surveyors' lists is the answer for both sections
    pub lists_refused : {s : Reading ℕ} {n : ℕ} {after : List Bool} → Marked (lists ns nt) ListsShown f at s after → s ≡ refused n
        → ListsRead ns nt f at s
    lists_refused m e qs qt a b = e ∙ sym (ap (λ r. closed f (one_sided (whole r))) (counted qs qt a b
        ∙ ap (λ r. r then (λ ls rest. rankings ns nt rest then finish qs qt ls)) (place_refused f (lists ns nt (drop at f)) (sym e ∙ m.place))))

    module _ (is_b : T (is_bytes f)) (h : at ≤ length f) {s : Reading ℕ} {mid : ℕ} {byS : List Bool} (m : Marked (lists ns nt) ListsShown f at s byS)
        (e : s ≡ accepted mid) where
      first : (ls : List (List Entry)) × (lists ns nt (drop at f) ≡ accepted (ls, drop mid f)) × (mid ≤ length f) × ListsShown byS ls
      first =
          given (place_read (section-reads (list_fit shifts nt) total_s (list_reads shifts nt) ns) f at is_b h (sym e ∙ m.place))
          (λ x. (x.value, x.is, x.within, m.marks x.value (drop mid f) x.is))

      -- the stands' lists begin no further than the file's end
      pub mid_within : mid ≤ length f
      mid_within = first.2

      -- a refusal of the stands' lists is the answer for both sections
      pub rankings_refused : {t : Reading ℕ} {n : ℕ} {after : List Bool} → Marked (rankings ns nt) RankingsShown f mid t after → t ≡ refused n
          → ListsRead ns nt f at t
      rankings_refused k d qs qt a b = d ∙ sym (ap (λ r. closed f (one_sided (whole r))) (counted qs qt a b
          ∙ ap (λ r. r then (λ ls rest. rankings ns nt rest then finish qs qt ls)) first.1
          ∙ ap (λ r. r then finish qs qt first.0) (place_refused f (rankings ns nt (drop mid f)) (sym d ∙ k.place))))

      module _ {t : Reading ℕ} {end : ℕ} {byT : List Bool} (k : Marked (rankings ns nt) RankingsShown f mid t byT) (d : t ≡ accepted end) where
        last : (ts : List Ranking) × (rankings ns nt (drop mid f) ≡ accepted (ts, drop end f)) × (end ≤ length f) × RankingsShown byT ts
        last =
            given (place_read (section-reads (ranking_fit shifts ns) total_t (ranking_reads shifts ns) nt) f mid is_b mid_within (sym d ∙ k.place))
            (λ x. (x.value, x.is, x.within, k.marks x.value (drop end f) x.is))

        abbrev here : List ℕ → List ℕ → Roster
        here qs qt = record { quotas_s = qs; quotas_t = qt; lists_s = first.0; lists_t = last.0 }

        read : (qs qt : List ℕ) → length qs ≡ ns → length qt ≡ nt → read_lists qs qt (drop at f) ≡ accepted (here qs qt, drop end f)
        read qs qt a b =
            counted qs qt a b ∙ ap (λ r. r then (λ ls rest. rankings ns nt rest then finish qs qt ls)) first.1
            ∙ ap (λ r. r then finish qs qt first.0) last.1

        -- "9 bytes after the end"
        pub lists_behind : end < length f → ListsRead ns nt f at (refused 9)
        lists_behind l qs qt a b = sym (ap (λ r. closed f (one_sided (whole r))) (read qs qt a b ∙ ap ((λ bs. accepted (here qs qt, bs))) (drop-cons f end 0 l)))

        -- "8 a pair listed by one side only"
        both_is : ns ≤ node_limit → nt ≤ node_limit → (qs qt : List ℕ) → length qs ≡ ns → length qt ≡ nt
            → both_alike byS byT ns nt ≡ both_or_neither (here qs qt)
        both_is p q qs qt a b = both_alike_law byS byT (here qs qt) ns nt a b p q first.3 last.3

        closes : length f ≤ end → (qs qt : List ℕ) → length qs ≡ ns → length qt ≡ nt
            → closed f (one_sided (whole (read_lists qs qt (drop at f)))) ≡ cond (both_or_neither (here qs qt)) (accepted (length f)) (refused 8)
        closes l qs qt a b =
            ap (λ r. closed f (one_sided (whole r))) (read qs qt a b ∙ ap ((λ bs. accepted (here qs qt, bs))) (drop_of_length-le f l))
            ∙ branch (both_or_neither (here qs qt))
          where
            branch : (c : Bool) → closed f (cond c (accepted (here qs qt)) (refused 8)) ≡ cond c (accepted (length f)) (refused 8)
            branch true = refl
            branch false = refl

        module _ (p : ns ≤ node_limit) (q : nt ≤ node_limit) (l : length f ≤ end) where
          -- the file ends behind the lists and each pair is in both or in neither: the answer is the file's end
          pub lists_alike : both_alike byS byT ns nt ≡ true → ListsRead ns nt f at (accepted end)
          lists_alike v qs qt a b =
              let w : end ≡ length f = omega (arith, last.2) in
              ap accepted w ∙ sym (closes l qs qt a b ∙ ap (λ c. cond c (accepted (length f)) (refused 8)) (sym (both_is p q qs qt a b) ∙ v))

          -- the file ends behind the lists and some pair is in one side's list only: 8
          pub lists_unlike : both_alike byS byT ns nt ≡ false → ListsRead ns nt f at (refused 8)
          lists_unlike v qs qt a b = sym (closes l qs qt a b ∙ ap (λ c. cond c (accepted (length f)) (refused 8)) (sym (both_is p q qs qt a b) ∙ v))

  -- ---- the nodes before them
  abbrev second : List ℕ → List ℕ → Reading (Roster × List ℕ)
  second qs rest = read_nodes rest then read_lists qs

  -- a refusal of the surveyors' count or quotas is the file's
  pub nodes_refused : (f : List ℕ) {s : Reading ℕ} {n : ℕ} → s ≡ placed f (read_nodes (drop 0 f)) → s ≡ refused n
      → s ≡ closed f (read_roster_by (layout_of shifts) f)
  unfolding read_roster_by
  nodes_refused f m e = e ∙ sym (ap (λ r. closed f (one_sided (whole (r then second)))) (place_refused f (read_nodes f) (sym e ∙ m)))

  module _ (f : List ℕ) {a : ℕ} (ns : Nodes f 0 a) where
    -- a refusal of the stands' count or quotas is the file's
    pub stands_refused : {t : Reading ℕ} {n : ℕ} → t ≡ placed f (read_nodes (drop a f)) → t ≡ refused n → t ≡ closed f (read_roster_by (layout_of shifts) f)
    unfolding read_roster_by
    stands_refused m e =
        e
        ∙ sym
        (ap (λ r. closed f (one_sided (whole (r then second)))) ns.is
        ∙ ap (λ r. closed f (one_sided (whole (r then read_lists ns.quotas)))) (place_refused f (read_nodes (drop a f)) (sym e ∙ m)))

    -- behind the nodes of both sides, the answer for the lists is the file's
    pub roster_read : {b : ℕ} (nt : Nodes f a b) {r : Reading ℕ} → ListsRead (get_or f 0 0) (get_or f a 0) f b r → r ≡ closed f (read_roster_by (layout_of shifts) f)
    unfolding read_roster_by
    roster_read nt m = m ns.quotas nt.quotas ns.count nt.count
        ∙ sym (ap (λ r. closed f (one_sided (whole (r then second)))) ns.is ∙ ap (λ r. closed f (one_sided (whole (r then read_lists ns.quotas)))) nt.is)

-- ---- what the file's end says of its reading
-- a place that is answered is that of an accepted file: what g says of every roster it says of the reading
pub closed_accepted : {A : Type 0} (f : List ℕ) (x : Reading Roster) {n : ℕ} (g : Reading Roster → A) {a : A} → ((R : Roster) → g (accepted R) ≡ a)
    → accepted n ≡ closed f x → g x ≡ a
closed_accepted f (accepted R) g h e = h R
closed_accepted f (refused m) g h e = read-not e

-- a refusal that is answered is that of the reading
pub closed_refused : (f : List ℕ) (x : Reading Roster) {n : ℕ} → refused n ≡ closed f x → x ≡ refused n
closed_refused f (accepted R) e = refused-not-read e
closed_refused f (refused m) e = ap refused (sym (ap refusal_number e))
