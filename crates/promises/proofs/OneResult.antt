-- Contracts fix their results. Most are equations, `result ≡ definition`, and two results that
-- equal one thing are equal. Where a contract says `as_answer result ≡ definition`, or
-- the same of another view of an answer, that view tells any two answers apart, so that two results
-- that it allows coincide.
-- Assumes nothing.
use Rattle.std.specs.Prelude.{Option, Some, None, Result, Ok, Err, eqb, if◌then◌else◌}
use Prim.Native.Nat.{ℕ}
use mathlib.Core.Path.{◌≡◌, refl, sym, ap, ◌∙◌}
use mathlib.Core.List.{List}
use native.Mathlib.Omega.{arith}
use Rattle.reading.specs.declared.Reason.{Reason}
use Rattle.reading.specs.declared.Reason.TheVariants as reasons
use Rattle.reading.specs.declared.Refusal.{Refusal}
use Rattle.reading.specs.Reading.{accepted, refused}
use Rattle.reading.specs.Replies.{reason_number, as_answer, as_passed, as_reply, as_result}
use Rattle.reading.proofs.Sames.{same_ok, same_err, same_read}
use Rattle.fields.specs.Bytes.{Wrote}
use Rattle.fields.specs.Value.{width_of}
use Rattle.fields.specs.declared.Width.{Width}
use Rattle.fields.specs.declared.Width.TheVariants.{One, Two, Four, Eight}
use Rattle.scalars.specs.Scalars.{as_width}
use Rattle.header.specs.declared.Header.{Header}
use Rattle.header.specs.Answers.{as_header}

-- two results of one equation
pub one_result : {A : Type 0} (x y : A) {definition : A} → x ≡ definition → y ≡ definition → x ≡ y
one_result x y e f = e ∙ sym f

-- what a field writer leaves, and its count
pub one-output : {l old out out' : List ℕ} {n m : ℕ} → Wrote l old out n → Wrote l old out' m → (out ≡ out') × (n ≡ m)
one-output x y = (x.bytes ∙ sym y.bytes, x.count ∙ sym y.count)

-- what is accepted is no refusal
apart : {A Z : Type 0} {a : A} {q n p : ℕ} → accepted a q ≡ refused n p → Z
apart e = let z : ◌≡◌ {A = ℕ} 0 1 = cc in absurd (omega arith)

-- the reason of a number; of one that is none's, the first
abbrev reason_of : ℕ → Reason
reason_of n =
    if eqb n 2 then reasons.OlderFormat else
    if eqb n 3 then reasons.NotGguf else
    if eqb n 4 then reasons.UnknownVersion else
    if eqb n 5 then reasons.VersionAboveCeiling else
    if eqb n 6 then reasons.TooFewRows else
    if eqb n 7 then reasons.StringTooLong else
    if eqb n 8 then reasons.UnknownType else
    if eqb n 9 then reasons.NestedArray else
    if eqb n 10 then reasons.TooManyDimensions else
    if eqb n 11 then reasons.UnknownKind else
    if eqb n 12 then reasons.KindAboveCeiling else
    if eqb n 13 then reasons.ProductOverflow else
    if eqb n 14 then reasons.SizeOverflow else
    if eqb n 15 then reasons.TotalOverflow else
    if eqb n 16 then reasons.Misaligned else
    if eqb n 17 then reasons.PartialBlock else
    if eqb n 18 then reasons.DataStartOverflow else
    if eqb n 20 then reasons.PastTheFile else
    if eqb n 30 then reasons.VersionNotWritten else
    if eqb n 31 then reasons.BadSheet else
    if eqb n 32 then reasons.BadAlignment else
    if eqb n 33 then reasons.AlignmentTooLarge else
    if eqb n 34 then reasons.OtherAlignment else
    if eqb n 35 then reasons.KindNotWritten else
    if eqb n 36 then reasons.OffsetOverflow else
    if eqb n 37 then reasons.CountOverflow else
    if eqb n 38 then reasons.OutputTooShort else
    if eqb n 43 then reasons.BadTrace else
    if eqb n 44 then reasons.TraceOverflow else
    if eqb n 45 then reasons.NoAnswerRows else
    reasons.CutOff

-- a number tells its reason
reason-back : (x : Reason) → reason_of (reason_number x) ≡ x
reason-back reasons.CutOff = refl
reason-back reasons.OlderFormat = refl
reason-back reasons.NotGguf = refl
reason-back reasons.UnknownVersion = refl
reason-back reasons.VersionAboveCeiling = refl
reason-back reasons.TooFewRows = refl
reason-back reasons.StringTooLong = refl
reason-back reasons.UnknownType = refl
reason-back reasons.NestedArray = refl
reason-back reasons.TooManyDimensions = refl
reason-back reasons.UnknownKind = refl
reason-back reasons.KindAboveCeiling = refl
reason-back reasons.ProductOverflow = refl
reason-back reasons.SizeOverflow = refl
reason-back reasons.TotalOverflow = refl
reason-back reasons.Misaligned = refl
reason-back reasons.PartialBlock = refl
reason-back reasons.DataStartOverflow = refl
reason-back reasons.PastTheFile = refl
reason-back reasons.VersionNotWritten = refl
reason-back reasons.BadSheet = refl
reason-back reasons.BadAlignment = refl
reason-back reasons.AlignmentTooLarge = refl
reason-back reasons.OtherAlignment = refl
reason-back reasons.KindNotWritten = refl
reason-back reasons.OffsetOverflow = refl
reason-back reasons.CountOverflow = refl
reason-back reasons.OutputTooShort = refl
reason-back reasons.BadTrace = refl
reason-back reasons.TraceOverflow = refl
reason-back reasons.NoAnswerRows = refl

-- two reasons of one number
one_reason : (x y : Reason) → reason_number x ≡ reason_number y → x ≡ y
one_reason x y e = sym (reason-back x) ∙ ap reason_of e ∙ reason-back y

-- two refusals of one number and one place
one_refusal : (x y : Refusal) → reason_number x.why ≡ reason_number y.why → x.place ≡ y.place → x ≡ y
one_refusal x y e f = rw (sym (one_reason x.why y.why e), f) refl

-- what was read, whatever it is: a number, a text, a key, an array, a value, an entry, a shape, a
-- kind with an offset, a tensor, a byte order, a version, or all before the first record
pub one-answer : {A : Type 0} (x y : Result (A × ℕ) Refusal) → as_answer x ≡ as_answer y → x ≡ y
one-answer (Ok a) (Ok b) e = let s = same_read a.0 b.0 a.1 b.1 e in rw (s.0, s.1) refl
one-answer (Ok a) (Err y) e = apart e
one-answer (Err x) (Ok b) e = apart (sym e)
one-answer (Err x) (Err y) e = ap Err (one_refusal x y (cc) (cc))

-- something that is passed
pub one-passed : (x y : Result ℕ Refusal) → as_passed x ≡ as_passed y → x ≡ y
one-passed (Ok p) (Ok q) e = cc
one-passed (Ok p) (Err y) e = apart e
one-passed (Err x) (Ok q) e = apart (sym e)
one-passed (Err x) (Err y) e = ap Err (one_refusal x y (cc) (cc))

-- a header
pub one-header : (x y : Result Header Refusal) → as_header x ≡ as_header y → x ≡ y
one-header (Ok h) (Ok i) e = cc
one-header (Ok h) (Err y) e = apart e
one-header (Err x) (Ok i) e = apart (sym e)
one-header (Err x) (Err y) e = ap Err (one_refusal x y (cc) (cc))

-- a whole call
pub one-reply : {A : Type 0} (x y : Result A Refusal) → as_reply x ≡ as_reply y → x ≡ y
one-reply (Ok a) (Ok b) e = cc
one-reply (Ok a) (Err y) e = let z : ◌≡◌ {A = ℕ} 0 1 = cc in absurd (omega arith)
one-reply (Err x) (Ok b) e = let z : ◌≡◌ {A = ℕ} 0 1 = cc in absurd (omega arith)
one-reply (Err x) (Err y) e = ap Err (one_refusal x y (cc) (cc))

-- an answer whose refusals have no place
pub one-result : {A : Type 0} (x y : Result A Reason) → as_result x ≡ as_result y → x ≡ y
one-result (Ok a) (Ok b) e = ap Ok (same_ok a b e)
one-result (Ok a) (Err y) e = let z : ◌≡◌ {A = ℕ} 0 1 = cc in absurd (omega arith)
one-result (Err x) (Ok b) e = let z : ◌≡◌ {A = ℕ} 0 1 = cc in absurd (omega arith)
one-result (Err x) (Err y) e = ap Err (one_reason x y (same_err _ _ e))

-- a width, and the width of a scalar
one_size : (x y : Width) → width_of x ≡ width_of y → x ≡ y
one_size One One e = refl
one_size One Two e = absurd (omega arith)
one_size One Four e = absurd (omega arith)
one_size One Eight e = absurd (omega arith)
one_size Two One e = absurd (omega arith)
one_size Two Two e = refl
one_size Two Four e = absurd (omega arith)
one_size Two Eight e = absurd (omega arith)
one_size Four One e = absurd (omega arith)
one_size Four Two e = absurd (omega arith)
one_size Four Four e = refl
one_size Four Eight e = absurd (omega arith)
one_size Eight One e = absurd (omega arith)
one_size Eight Two e = absurd (omega arith)
one_size Eight Four e = absurd (omega arith)
one_size Eight Eight e = refl

some_size : (x : Width) → width_of x ≡ 0 → ⊥
some_size One e = omega arith
some_size Two e = omega arith
some_size Four e = omega arith
some_size Eight e = omega arith

pub one_width : (x y : Option Width) → as_width x ≡ as_width y → x ≡ y
one_width (Some x) (Some y) e = ap Some (one_size x y e)
one_width (Some x) None e = absurd (some_size x e)
one_width None (Some y) e = absurd (some_size y (sym e))
one_width None None e = refl
