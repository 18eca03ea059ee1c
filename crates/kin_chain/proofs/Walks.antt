-- The walk along the breakpoints of two chains: each step passes the first breakpoint of what is left of one of them.
use Rattle.std.proofs.Common.{◌≡◌, refl, sym, ap, ◌∙◌, subst, List, [], ◌∷◌, ℕ}
use Rattle.kin_motion.specs.Merges.{Half, Half.{A, B}, Breakpoint, own_of, breakpoints_of, IsInterleaving, current_after, last_of}
use Rattle.kin_motion.proofs.BreakpointLaws.{own_with}

-- a breakpoint that is the first of its chain's rest, which begins with p
pub record IsNext (h : Half) (p : ℕ) (rest : List ℕ) (e : Breakpoint) (es : List Breakpoint) : Type 0 where
  pub to : ℕ
  pub behind : List ℕ
  pub rest_is : rest ≡ to ∷ behind
  pub is : e ≡ record { half = h; left = p; right = to }
  pub own : es ≡ breakpoints_of h (to ∷ behind)

pub next_of : (h : Half) (p : ℕ) (rest : List ℕ) (e : Breakpoint) (es : List Breakpoint) → e ∷ es ≡ breakpoints_of h (p ∷ rest) → IsNext h p rest e es
next_of h p [] e es q = absurd cc
next_of h p (j ∷ rest) e es q = record { to = j; behind = rest; rest_is = refl; is = same_first q; own = same_behind q }
  where
    same_first : {d e : Breakpoint} {ds es : List Breakpoint} → d ∷ ds ≡ e ∷ es → d ≡ e
    same_first {d} {e} {ds} {es} q = cc

    same_behind : {d e : Breakpoint} {ds es : List Breakpoint} → d ∷ ds ≡ e ∷ es → ds ≡ es
    same_behind {d} {e} {ds} {es} q = cc

-- where nothing is left of the walk, the current points are the last ones
pub at_end : (h : Half) (p : ℕ) (ps : List ℕ) → [] ≡ breakpoints_of h (p ∷ ps) → ps ≡ []
at_end h p [] q = refl
at_end h p (r ∷ ps) q = absurd cc

-- what is left of a walk behind its first breakpoint; both chains still end in the same points
pub record IsBehind (a : ℕ) (as' : List ℕ) (b : ℕ) (bs : List ℕ) (e : Breakpoint) (es : List Breakpoint) : Type 0 where
  pub a_rest : List ℕ
  pub b_rest : List ℕ
  pub walk : IsInterleaving (current_after A e a ∷ a_rest) (current_after B e b ∷ b_rest) es
  pub a_last : last_of (current_after A e a) a_rest ≡ last_of a as'
  pub b_last : last_of (current_after B e b) b_rest ≡ last_of b bs

pub behind_of : (a : ℕ) (as' : List ℕ) (b : ℕ) (bs : List ℕ) (e : Breakpoint) (es : List Breakpoint) → IsInterleaving (a ∷ as') (b ∷ bs) (e ∷ es) → IsBehind a as' b bs e es
behind_of a as' b bs e es walk = by_half e.half refl
  where
    of_a : own_of B es ≡ breakpoints_of B (b ∷ bs) → IsNext A a as' e (own_of A es) → IsBehind a as' b bs e es
    of_a other n =
        subst (λ d. IsBehind a as' b bs d es) (sym n.is)
        (record { a_rest = n.behind; b_rest = bs; walk = record { of_a = n.own; of_b = other }; a_last = ap (last_of a) (sym n.rest_is); b_last = refl })

    of_b : own_of A es ≡ breakpoints_of A (a ∷ as') → IsNext B b bs e (own_of B es) → IsBehind a as' b bs e es
    of_b other n =
        subst (λ d. IsBehind a as' b bs d es) (sym n.is)
        (record { a_rest = as'; b_rest = n.behind; walk = record { of_a = other; of_b = n.own }; a_last = refl; b_last = ap (last_of b) (sym n.rest_is) })

    by_half : (h : Half) → e.half ≡ h → IsBehind a as' b bs e es
    by_half A q = of_a (sym (own_with B A e es q) ∙ walk.of_b) (next_of A a as' e (own_of A es) (sym (own_with A A e es q) ∙ walk.of_a))
    by_half B q = of_b (sym (own_with A B e es q) ∙ walk.of_a) (next_of B b bs e (own_of B es) (sym (own_with B B e es q) ∙ walk.of_b))
