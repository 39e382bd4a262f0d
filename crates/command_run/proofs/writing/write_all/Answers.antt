use Rattle.std.proofs.Common.{◌≡◌, ◌≤◌, ℕ, ◌+◌, length, take, subst}
use Rattle.std.proofs.Math.Nat.{le_trans}
use Rattle.std.specs.Io.KnownBytes.{Appends}
use native.Mathlib.Omega.{arith}
use Rattle.command_run.proofs.Written.{written_more}
use Rattle.command_run.proofs.writing.write_all.Goals as goal

-- src/writing.rt:22:5
pub writing-preserved : goal.writing-preserved
writing-preserved g c =
    let held = g.K.Sink.held in
    let bytes = c.args.bytes.now in
    let at : ℕ = c.writing.at in
    let count : ℕ = c.in_ok-at.field-0 in
    let took = c.in_ok-at.ensures in
    let rest_len : length c.split_at.result.1.now + at ≡ length bytes = c.split_at.ensures.back_len in
    let some : count ≤ length c.split_at.result.1.now = took.within in
    let room : at ≤ length bytes = c.writing.invariant.within in
    record {
      later = le_trans c.writing.invariant.later took.cause.later;
      within = omega arith;
      written = written_more _ _ _ bytes at count c.writing.invariant.written
          (subst (λ rest. Appends (held c.writing.sink) (held c.write.new.self) (take count rest)) c.split_at.ensures.back took.appends);
    }
