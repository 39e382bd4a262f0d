use Rattle.std.proofs.Common.{◌≡◌, ℕ, List, ap, subst, sym, ◌∙◌}
use Rattle.std.specs.Prelude.{All, replicate}
use Rattle.std.proofs.lemmas.List.Elements.{All-replicate}
use Rattle.ckpt_types.specs.Asks.{update_of}
use Rattle.shared_nodes.specs.Works.{KeptWork, commits_max, empty_buffer, longest_id, update_shares_max}
use Rattle.shared_nodes.proofs.work.update_work.Goals as goal

all_alike : {A : Type 0} (n : ℕ) (x y : A) (items : List A) → items ≡ replicate n x → x ≡ y → All (λ z. z ≡ y) items
all_alike {A} n x y items are same = subst (λ (xs : List A). All (λ z. z ≡ y) xs) (sym are) (All-replicate (λ (z : A). z ≡ y) n x same)

pub invariant_of-work : goal.invariant_of-work
invariant_of-work c =
    let op : c.work.inside.op ≡ c.args.op.now = ap (λ (w : KeptWork). w.op) (c.work.view_is ∙ c.in_ok-work.ensures) in
    let update : c.args.update.now ≡ update_of c.work.inside.op = c.requires ∙ ap update_of (sym op) in
    let bytes : c.longest_id.result ≡ longest_id (update_of c.work.inside.op) = c.longest_id.ensures ∙ ap longest_id (c.value.ensures ∙ update) in
    record {
      updates = all_alike update_shares_max c.args.update.now _ _ c.in_ok-work-inside.ensures update;
      ids = all_alike commits_max (empty_buffer 1 c.longest_id.result) _ _ c.in_ok-work-inside-2.ensures (ap (λ (n : ℕ). empty_buffer 1 n) bytes);
      elements = c.work.invariant.elements;
      reads = c.work.invariant.reads;
    }
