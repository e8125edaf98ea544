-- The end of the steps: what `ended` promises, what it finds on its ways, and that its promise follows.
use Rattle.std.specs.Prelude.{ℕ, ◌*◌, ◌≤◌, ◌<◌, ◌≡◌, refl, Bool, true, false, List, [], ◌∷◌, length}
use Rattle.std.proofs.Common.{arith, sym, ap, ◌∙◌, subst}
use Rattle.lists.specs.Sum.{range, range_length}
use Rattle.model.specs.Limits.{entry_limit, pair_width, left_size}
use Rattle.model.specs.Instance.{Instance}
use Rattle.model.specs.Plans.{Plan, verdict_of}
use Rattle.model.specs.PlanFile.{edges_in, pair_list}
use Rattle.model.specs.Finder as F
use Rattle.model.specs.Finder.{Found, is_empty}
use Rattle.model_desk.specs.Desk.{onto}
use Rattle.arrays.specs.ArrayInstance.{flag}
use Rattle.arrays.specs.Kept.{keep_most}
use Rattle.plan_writer.specs.Written.{pairs_of}
use Rattle.instance.specs.declared.Instance as arrays
use Rattle.instance.specs.Decoded.{shown_by}
use Rattle.verdict.specs.Weighing.{Shows}
use Rattle.answers.specs.declared.Found as code
use Rattle.answers.specs.declared.Found.TheVariants as says
use Rattle.answers.specs.declared.NoneKind.TheVariants as kind
use Rattle.finder_candidate.specs.FoundBuffers.{candidate, Wrote}

-- ---- what is promised
-- what is found at the end of the steps, with these edges left
abbrev pub at_end : Instance → Plan → List ℕ → Found
at_end G M es = elim (is_empty es) as (λ b. Found) [ true ↦ candidate G M (verdict_of G M) | false ↦ F.left es ]

-- of the plan that the fixed edges are
abbrev pub Ends : (g : arrays.Instance) (rem fixed : List Bool) (steps : ℕ) (l p v : List ℕ) (r : code.Found) (l' p' v' : List ℕ) → Type 0
Ends g rem fixed steps l p v r l' p' v' = (M : Plan) → Shows (shown_by g) fixed M
    → Wrote (shown_by g) (at_end (shown_by g) M (edges_in g.m (flag rem))) steps l p v r l' p' v'

-- ---- the end of the steps
module _ (g : arrays.Instance) (M : Plan) (es : List ℕ) (steps : ℕ) (l p v l' : List ℕ) (k : ℕ) (count : k ≡ length es)
    (wrote : l' ≡ onto (pairs_of g.sv g.st g.sh es) l) where
  abbrev G : Instance
  G = shown_by g

  -- some pairs are left
  pub some_left : 0 < k → Wrote G (at_end G M es) steps l p v (says.None steps (kind.Left k)) l' p v
  some_left h = subst (λ b. Wrote G (ended b) steps l p v (says.None steps (kind.Left k)) l' p v) (sym (filled es (omega arith))) (record {
    answer = ap (λ n. says.None steps (kind.Left n)) count;
    left = wrote;
    plan = refl;
    rival = refl;
  })
    where
      ended : Bool → Found
      ended b = elim b as (λ b. Found) [ true ↦ candidate G M (verdict_of G M) | false ↦ F.left es ]

      filled : (xs : List ℕ) → 0 < length xs → is_empty xs ≡ false
      filled [] h = absurd (omega arith)
      filled (x ∷ xs) h = refl

  -- none is left: the buffer is as it was
  pub none_left : k ≤ 0 → {r : code.Found} {p' v' : List ℕ} → ((l : List ℕ) → Wrote G (candidate G M (verdict_of G M)) steps l p v r l p' v')
      → Wrote G (at_end G M es) steps l p v r l' p' v'
  none_left h {r} {p'} {v'} W =
      let e : es ≡ [] = nothing es (omega arith) in
      subst (λ z. Wrote G (at_end G M z) steps l p v r l' p' v') (sym e)
      (subst (λ z. Wrote G (candidate G M (verdict_of G M)) steps l p v r z p' v') (sym (wrote ∙ ap (λ z. onto (pair_list G z) l) e)) (W l))
    where
      nothing : (xs : List ℕ) → length xs ≤ 0 → xs ≡ []
      nothing [] h = refl
      nothing (x ∷ xs) h = absurd (omega arith)

-- room for all pairs in a buffer of its size
pub left_room : (m : ℕ) (rem : List Bool) (l : List ℕ) → m ≤ entry_limit → left_size ≤ length l → pair_width * length (edges_in m (flag rem)) ≤ length l
left_room m rem l h k = omega (arith, keep_most (flag rem) (range 0 m), range_length 0 m)
