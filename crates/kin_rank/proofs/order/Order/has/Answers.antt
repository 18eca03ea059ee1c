use Rattle.std.proofs.Common.{◌≡◌, refl, sym, ap, ◌∙◌, arith, ◌<◌, ◌≤◌, ℕ, List, false, nat_eq, nat_lt, length, get_or, Some}
use Rattle.std.proofs.lemmas.Bool.{false_from_ne_true}
use Rattle.std.proofs.lemmas.Bool.Decides.{nat_tests}
use Rattle.std.proofs.lemmas.Option.{slice_get_read, slice_get_within, same_Some}
use Rattle.kin_algebra.proofs.Tests.{same_test}
use Rattle.kin_rank.specs.Orders.{IsPlaced}
use Rattle.kin_rank.specs.Ranking.{has}
use Rattle.kin_rank.proofs.Members.{has_from_get}
use Rattle.kin_rank.proofs.Placing.{member_below, found}
use Rattle.kin_rank.proofs.order.Order.has.Goals as goal

missing : (xs places : List ℕ) → IsPlaced xs places → (x : ℕ) → length places ≤ x → has xs x ≡ false
missing xs places placed x l = false_from_ne_true (has xs x) (λ e. let b = member_below xs places placed x e in absurd (omega (arith, l, b)))

read_there : (xs places : List ℕ) → IsPlaced xs places → (x p y : ℕ) → p ≡ get_or places x p → p < length xs → y ≡ get_or xs p y → nat_eq y x ≡ has xs x
read_there xs places placed x p y e l f = same_test (nat_eq y x) (has xs x)
    (λ t. let s : y ≡ x = grind (arith, nat_tests, t) in has_from_get xs p x (slice_get_read xs (length xs) p y refl l f ∙ ap (λ (n : ℕ). Some n) s))
    (λ t. let s : y ≡ x = same_Some y x (sym (slice_get_read xs (length xs) p y refl l f) ∙ found xs places placed x p t e) in grind (arith, nat_tests, s))

read_past : (xs places : List ℕ) → IsPlaced xs places → (x p n : ℕ) → n ≡ length xs → p ≡ get_or places x p → n ≤ p → nat_lt p n ≡ has xs x
read_past xs places placed x p n long e l = same_test (nat_lt p n) (has xs x)
    (λ t. absurd (let s : p < n = grind (arith, nat_tests, t) in omega (arith, s, l)))
    (λ t. absurd (let w = slice_get_within xs p x (found xs places placed x p t e) in omega (arith, w, l, long)))

pub returns-then-no-len : goal.returns-then-no-len
returns-then-no-len c = sym (missing c.args.self.now.items.items c.args.self.now.places.items c.requires c.args.no
    (let t = c.if-no-len.true in let e = c.len.ensures in let k = c.args.self.now.places.ok.0 in omega (arith, t, e, k)))

pub returns-then-place-len : goal.returns-then-place-len
returns-then-place-len c = read_there c.args.self.now.items.items c.args.self.now.places.items c.requires c.args.no c.index.result.now c.index-then-place-len.result.now c.index.ensures
    (let t = c.if-place-len.true in let e = c.len-2.ensures in let k = c.args.self.now.items.ok.0 in omega (arith, t, e, k)) c.index-then-place-len.ensures

pub returns-else-place-len : goal.returns-else-place-len
returns-else-place-len c = read_past c.args.self.now.items.items c.args.self.now.places.items c.requires c.args.no c.index.result.now c.len-2.result (c.len-2.ensures ∙ c.args.self.now.items.ok.0)
    c.index.ensures c.if-place-len.false
