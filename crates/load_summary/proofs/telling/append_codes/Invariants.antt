use Rattle.std.proofs.Common.{◌≡◌, ◌++◌, take, flat_map, slice_index}
use Rattle.ckpt_types.specs.AisError.{code_of}
use Rattle.load_summary.specs.Summary.{code_line}
use Rattle.load_summary.proofs.telling.append_codes.Given as goal

abbrev pub invariant-loop-error : goal.invariant-loop-error
invariant-loop-error l = l.out.items ≡ l.initial.out.items ++ flat_map (λ error. code_line error (slice_index l.by_code (code_of error))) (take l.error-index l.codes)
