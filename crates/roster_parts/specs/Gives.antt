-- The answer of a change: the bytes of the changed roster, or the model's refusal.
use Rattle.std.specs.Prelude.{ℕ, ◌*◌, ◌-◌, ◌/◌, ◌≤◌, ◌≡◌, refl, take, T}
use Rattle.std.specs.Prelude.{Result}
use Rattle.std.specs.declared.result.Result.TheVariants.{Ok, Err}
use native.Mathlib.Omega.{arith}
use Rattle.std.proofs.Common.{sym, ◌∙◌, subst}
use Rattle.std.proofs.Math.Path.{ap, ap₂}
use mathlib.Core.List.{List, ◌++◌, append_assoc}
use Rattle.std.proofs.Math.ListN.{length, length-append}
use Rattle.std.proofs.Math.Seq.{take_all}
use Rattle.lists.specs.Keep.{gather}
use Rattle.model.specs.Limits.{entry_width, roster_size}
use Rattle.model.specs.Reading.{Reading, accepted, refused}
use Rattle.model.specs.Roster.{Roster, surveyor_count, stand_count, total_s, total_t, fits}
use Rattle.model.specs.RosterFile.{shifted, list_bytes, entries_bytes, ranking_bytes, wide_bytes, read_roster, write_roster_by, write_roster}
use Rattle.theory_files.specs.RosterInstance.{lists_count, rankings_count}
use Rattle.theory_files.specs.Rosters.{lists_size, rankings_size, roster_size_law}
use Rattle.answers.specs.declared.Refusal.{Refusal}
use Rattle.answers.specs.RefusalCases.{number_of}
use Rattle.roster_parts.specs.declared.RosterBytes.{RosterBytes}
use Rattle.roster_parts.specs.Growth.{written, section_of, Grown, Holds, grown_as, holds_then, holds_as}

-- an answer that is a roster's bytes of which P is so
abbrev pub Makes : (RosterBytes → Type 0) → Result RosterBytes Refusal → Type 0
Makes P (Ok c) = P c
Makes P (Err r) = ⊥

-- the same of what follows from it
pub makes_as : {P Q : RosterBytes → Type 0} (c : Result RosterBytes Refusal) → ((b : RosterBytes) → P b → Q b) → Makes P c → Makes Q c
makes_as (Ok b) f h = f b h
makes_as (Err r) f h = h

-- an answer that is the refusal of that number
abbrev pub Refuses : ℕ → Result RosterBytes Refusal → Type 0
Refuses n (Ok c) = ⊥
Refuses n (Err r) = number_of r ≡ n

-- accepted: the front of the array is the changed roster's bytes; refused: the refusal of that number
abbrev pub Gives : Reading Roster → Result RosterBytes Refusal → Type 0
Gives (accepted H) c = Makes (λ b. (b.len ≤ roster_size) × (take b.len b.roster ≡ write_roster H)) c
Gives (refused n) c = Refuses n c

-- a change that is refused, answered with that refusal
pub gives_refused : (x : Reading Roster) (r : Refusal) → x ≡ refused (number_of r) → Gives x (Err r)
gives_refused x r e = subst (λ z. Gives z (Err r)) (sym e) refl

-- and back: what an answer says of the change
pub gives_turned : (x : Reading Roster) {c : Result RosterBytes Refusal} {r : Refusal} → Gives x c → c ≡ Err r → x ≡ refused (number_of r)
gives_turned (accepted H) g e = absurd (subst (Gives (accepted H)) e g)
gives_turned (refused n) g e = ap refused (sym (subst (Gives (refused n)) e g))

-- a change that is made, and the bytes that were handed on
pub gives_made : (x : Reading Roster) {c : Result RosterBytes Refusal} {b : RosterBytes} → Gives x c → c ≡ Ok b
    → (H : Roster) × (x ≡ accepted H) × (b.len ≤ roster_size) × (take b.len b.roster ≡ write_roster H)
gives_made (accepted H) g e = let (few, front) = subst (Gives (accepted H)) e g in (H, refl, few, front)
gives_made (refused n) g e = absurd (subst (Gives (refused n)) e g)

-- the answer of a change to the roster that the file is
abbrev pub ChangedBy : (Roster → Reading Roster) → List ℕ → Result RosterBytes Refusal → Type 0
ChangedBy change f c = (R : Roster) → read_roster f ≡ accepted R → Gives (change R) c

-- a roster's bytes from those of its nodes, of its surveyors' lists and of its stands', as many as there is room for
abbrev pub roster_of : (ns nt : ℕ) (nodes lists rankings : List ℕ) → List ℕ
roster_of ns nt nodes lists rankings = nodes ++ (section_of ns (take roster_size lists) ++ section_of (2 * nt) (take roster_size rankings))

-- the nodes first, then both sections
pub held : (ns nt : ℕ) {nodes lists rankings : List ℕ} {b c d l m : RosterBytes} → Holds nodes b → Holds lists l → Grown (section_of ns (written l)) b c
    → Holds rankings m → Grown (section_of (2 * nt) (written m)) c d → Holds (roster_of ns nt nodes lists rankings) d
held ns nt {nodes} {lists} {rankings} n l s t u = holds_as
    (append_assoc nodes (section_of ns (take roster_size lists)) (section_of (2 * nt) (take roster_size rankings)))
    (holds_then (holds_then n (grown_as (ap (section_of ns) l.front) s)) (grown_as (ap (section_of (2 * nt)) t.front) u))

-- a roster within the limits has room
module _ (H : Roster) (ok : T (fits H)) (nodes lists rankings : List ℕ) (n : nodes ≡ list_bytes H.quotas_s ++ list_bytes H.quotas_t)
    (l : lists ≡ gather (entries_bytes shifted) H.lists_s)
    (t : rankings ≡ gather (ranking_bytes shifted) H.lists_t) where
  abbrev listed : List ℕ
  listed = gather (entries_bytes shifted) H.lists_s

  abbrev ranked : List ℕ
  ranked = gather (ranking_bytes shifted) H.lists_t

  abbrev sections : List ℕ
  sections = (wide_bytes (total_s H.lists_s) ++ listed) ++ (wide_bytes (total_t H.lists_t) ++ ranked)

  sections_fit : (length listed ≤ roster_size) × (length ranked ≤ roster_size)
  unfolding write_roster_by
  sections_fit =
      let h = roster_size_law H ok in
      let a = length-append (list_bytes H.quotas_s) (list_bytes H.quotas_t ++ sections) in
      let b = length-append (list_bytes H.quotas_t) sections in
      let c = length-append (wide_bytes (total_s H.lists_s) ++ listed) (wide_bytes (total_t H.lists_t) ++ ranked) in
      (omega arith, omega arith)

  whole : roster_of (length H.lists_s) (length H.lists_t) nodes lists rankings ≡ write_roster H
  unfolding write_roster_by
  whole =
      let (hs, ht) = sections_fit in
      let a : (length listed - length H.lists_s) / entry_width ≡ total_s H.lists_s = omega (arith, lists_size H.lists_s) in
      let b : (length ranked - 2 * length H.lists_t) / entry_width ≡ total_t H.lists_t = omega (arith, rankings_size H.lists_t) in
      ap₂ (λ x y. x ++ y) n
      (ap₂ (λ x y. x ++ y)
      (ap (section_of (length H.lists_s)) (ap (take roster_size) l ∙ take_all roster_size listed hs) ∙ ap (λ k. wide_bytes k ++ listed) a)
      (ap (section_of (2 * length H.lists_t)) (ap (take roster_size) t ∙ take_all roster_size ranked ht) ∙ ap (λ k. wide_bytes k ++ ranked) b))
      ∙ append_assoc (list_bytes H.quotas_s) (list_bytes H.quotas_t) sections

  -- an array that holds the bytes of a roster within the limits, put together from its parts, gives that roster
  pub gives_held : {c : RosterBytes} (ns nt : ℕ) → surveyor_count H ≡ ns → stand_count H ≡ nt → Holds (roster_of ns nt nodes lists rankings) c
      → Gives (accepted H) (Ok c)
  gives_held {c} ns nt a b h = (
    c.few,
    h.front ∙ ap (take roster_size)
        (ap₂ (λ x y. roster_of x y nodes lists rankings) (sym (lists_count H ok ∙ a)) (sym (rankings_count H ok ∙ b)) ∙ whole)
        ∙ take_all roster_size (write_roster H) (roster_size_law H ok),
  )
