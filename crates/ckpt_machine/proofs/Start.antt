-- The empty cluster has the invariant.
use Rattle.std.proofs.Common.{◌≡◌, [], None, false, refl, arith}
use Rattle.std.specs.Prelude.{slice_index}
use Rattle.ckpt_types.specs.declared.identities.ActorName.TheVariants.{Node}
use Rattle.ckpt_types.specs.declared.update.Update.TheVariants as updates
use Rattle.cluster_record.specs.RecordState.{no_nodes}
use Rattle.ckpt_machine.specs.Machine.{empty_cluster}
use Rattle.ckpt_machine.specs.Shape.{Shape}
use Rattle.ckpt_machine.specs.Invariant.{Invariant}
use Rattle.ckpt_machine.proofs.AtRest.{NoneLent-no_tables}
use Rattle.ckpt_types.proofs.Lists.{slice_index-replicate}

no_shape : Shape
no_shape = record { owners = λ r. None; origin = record { actor = Node 0; number = 0 }; update = updates.Nothing; moment = empty_cluster.cluster.moment; sections = []; effects = []; outcome = []; done = false; marks = None }

pub invariant_empty : Invariant empty_cluster
invariant_empty = record {
  shapes = λ k. no_shape;
  holds = record {
    up = refl;
    first_up = λ never. refl;
    incarnations = record { nodes = refl; first_nodes = refl; no_later = λ r. omega arith; from_one = λ r. omega arith; present = λ r. (let none : slice_index no_nodes r ≡ 0 = slice_index-replicate 8 r in omega (arith, none)) };
    none_live = λ none. refl;
    rises = tt;
    up_to = tt;
    few = omega arith;
    swept = tt;
    entries = λ k e found. absurd (cc found);
    replicas = λ k r x none. absurd (cc none);
    reserves = λ k r n none. absurd (cc none);
    handles = λ c h among. let (i, below, is) = among in absurd (omega (arith, below));
    rest = λ a. NoneLent-no_tables;
    clients = λ c. tt;
    places = λ c. omega arith;
    hands = λ w s held. absurd (cc held);
    calls = record {
      one_name = λ w v s t at there same. absurd (cc at);
      begun = λ a c among. let (i, below, is) = among in absurd (omega (arith, below));
      kept = λ w s at async. absurd (cc at);
    };
  };
}
