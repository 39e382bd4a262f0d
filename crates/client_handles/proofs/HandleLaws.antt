-- For which handle a place stands after each call.
use Rattle.std.proofs.Common.{nat_lt, ◌&&◌, Bool, true, false, ◌≡◌, ◌≢◌, ℕ, ◌<◌, length, cond, Option, Some, None, Result, Ok, Err, slice_index, refl, sym, ap, ◌∙◌}
use Rattle.std.specs.Prelude.{is_some}
use Rattle.std.specs.Option.{ok_or}
use Rattle.ckpt_types.specs.Limits.{places_max}
use Rattle.ckpt_types.specs.declared.ais_error.AisError.{AisError}
use Rattle.ckpt_types.specs.declared.ais_error.AisError.TheVariants.{BadHandle}
use Rattle.client_handles.specs.ClientState.{ClientState, handle_number, handle_numbered, handle_at, named_handle, released, bound, opened_at, dropped, emptied}
use Rattle.client_handles.specs.declared.handle_view.HandleView.{HandleView}
use Rattle.client_handles.proofs.NumberedLaws.{numbered-is, stands_for-set_same, stands_for-set_other}

same_open_handle : (x y : HandleView) → ◌≡◌ {A = Result HandleView AisError} (Ok x) (Ok y) → x ≡ y
same_open_handle x y e = cc e

named_case : (h : HandleView) (o : Option HandleView) → Ok h ≡ ok_or o BadHandle → o ≡ Some h
named_case h None e = absurd cc
named_case h (Some x) e = ap Some (sym (same_open_handle h x e))

-- the handle that is named has the number to which the place was set
pub named_handle-number : (place : ℕ) (s : ClientState) (h : HandleView) → Ok h ≡ named_handle place s → h.handle ≡ slice_index s.places place
named_handle-number place s h e = numbered-is handle_number (slice_index s.places place) s.handles h (named_case h (handle_at place s) e)

-- so it is open
pub handle_numbered-named : (place : ℕ) (s : ClientState) (h : HandleView) → Ok h ≡ named_handle place s → handle_numbered h.handle s.handles ≡ Some h
handle_numbered-named place s h e = ap (λ n. handle_numbered n s.handles) (named_handle-number place s h e) ∙ named_case h (handle_at place s) e

-- where none is named, the place stands for none
pub handle_at-refused : (place : ℕ) (s : ClientState) (error : AisError) → Err error ≡ named_handle place s → handle_at place s ≡ None
handle_at-refused place s error e = refused_case (handle_at place s) e where
  refused_case : (o : Option HandleView) → Err error ≡ ok_or o BadHandle → o ≡ None
  refused_case None e = refl
  refused_case (Some x) e = absurd cc

-- a place that is set stands for the handle of that number
pub handle_at-bound_same : (place number : ℕ) (s : ClientState) → place < length s.places → handle_at place (bound place number s) ≡ handle_numbered number s.handles
handle_at-bound_same place number s within = stands_for-set_same handle_number s.places s.handles place number within
