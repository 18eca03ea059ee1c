-- The laws of the order of moments, for moments within the bounds.
use Rattle.std.proofs.Common.{◌≡◌, ◌⊎◌}
use Rattle.kin_num.specs.declared.instant.Moment.{Moment}
use Rattle.kin_num.specs.Canonical.{IsCanonical}
use Rattle.kin_num.specs.Order.{IsEarlier}
use Rattle.kin_num.proofs.MomentOrder.{not_earlier_itself, earlier_trans, earlier_total}

pub never : (m : Moment) → IsCanonical m.at → IsEarlier m m → ⊥
never m c = not_earlier_itself m

pub through : (l m n : Moment) → IsCanonical l.at → IsCanonical m.at → IsCanonical n.at → IsEarlier l m → IsEarlier m n → IsEarlier l n
through l m n a b c = earlier_trans l m n a.form b.form c.form

pub total : (m n : Moment) → IsCanonical m.at → IsCanonical n.at → IsEarlier m n ⊎ (IsEarlier n m ⊎ (m ≡ n))
total m n a b = earlier_total m n a.form b.form
