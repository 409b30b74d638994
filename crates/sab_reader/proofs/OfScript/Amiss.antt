-- What is reported about numbers that are no whole numbers is true.
use Rattle.serde_json.specs.Data.{Num, Data, number}
use Rattle.sab_refusal.specs.declared.location.Location.{Location}
use Rattle.sab_refusal.specs.declared.reason.Reason.{Reason}
use Rattle.sab_refusal.specs.declared.reason.Reason.TheVariants as why
use Rattle.sab_refusal.specs.declared.reason.Wanted.{Wanted}
use Rattle.sab_reader.specs.Script.Known.{IsNumberAs}
use Rattle.sab_reader.specs.Script.Places.{Stands, CallsFor}
use Rattle.sab_reader.specs.Script.Truth.{IsAmiss, HasAmiss, IsTrueAt}
use Rattle.std.proofs.Common.{refl}

-- what is amiss with a number is true of the script in which it stands
amiss_true : (root : Data) (place : Location) (n : Num) (reason : Reason) → IsAmiss n reason
    → HasAmiss root place reason → IsTrueAt root place reason
amiss_true root place n (why.Fraction reported) amiss has = has
amiss_true root place n why.MinusZero amiss has = has
amiss_true root place n (why.PointOrExponent z) amiss has = has
amiss_true root place n why.TooFar amiss has = has
amiss_true root place n (why.Type w) amiss has = absurd amiss
amiss_true root place n (why.Missing m) amiss has = absurd amiss
amiss_true root place n (why.Surplus reported) amiss has = absurd amiss
amiss_true root place n why.EmptyCall amiss has = absurd amiss
amiss_true root place n (why.TooMany of count most) amiss has = absurd amiss
amiss_true root place n (why.NameForm reported) amiss has = absurd amiss
amiss_true root place n (why.Twice reported v) amiss has = absurd amiss
amiss_true root place n (why.NoView reported) amiss has = absurd amiss
amiss_true root place n (why.BelowZero z) amiss has = absurd amiss
amiss_true root place n (why.NoBigInt reported) amiss has = absurd amiss
amiss_true root place n (why.NoCall reported) amiss has = absurd amiss
amiss_true root place n (why.FewElements count least most) amiss has = absurd amiss
amiss_true root place n (why.ManyElements count most) amiss has = absurd amiss
amiss_true root place n (why.NoKind reported) amiss has = absurd amiss
amiss_true root place n (why.NearKind reported kind) amiss has = absurd amiss
amiss_true root place n (why.Misfit m) amiss has = absurd amiss
amiss_true root place n (why.Beyond of z count) amiss has = absurd amiss
amiss_true root place n why.NoBlocks amiss has = absurd amiss
amiss_true root place n why.Memory amiss has = absurd amiss

-- and where it stands one is called for
pub amiss_reported : (root : Data) (place : Location) (w : Wanted) (n : Num) (reason : Reason) → IsAmiss n reason
    → Stands root place (number n) → CallsFor root place w → IsNumberAs w (number n) → IsTrueAt root place reason
amiss_reported root place w n reason amiss stands called same =
    amiss_true root place n reason amiss (n, stands, amiss, (w, called, same.1 (n, refl)))
