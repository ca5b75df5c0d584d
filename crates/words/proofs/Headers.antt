-- A reader's answer as a call's: the place after the header is part of the header. Assumes nothing.
use Rattle.std.specs.Prelude.{◌≡◌, Result, Ok, Err}
use mathlib.Core.Path.{refl}
use Rattle.reading.specs.declared.Refusal.{Refusal}
use Rattle.reading.specs.Replies.{as_reply, reply_of}
use Rattle.header.specs.declared.Header.{Header}
use Rattle.header.specs.Answers.{as_header}

pub reply_of_header : (read : Result Header Refusal) → reply_of (as_header read) ≡ as_reply read
reply_of_header (Ok h) = refl
reply_of_header (Err e) = refl
