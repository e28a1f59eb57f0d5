-- Stores are points that each domain keeps.
use Rattle.std.proofs.Common.{length, ap}
use Rattle.lra_inductive_sound.specs.Crates.{lra_domain.Abstraction.Abstraction, lra_domain.Laws.Laws}
use Rattle.lra_inductive_sound.specs.{Inductive.ValuesAreInductive, Points.KeepPoints, Stores.stores}
use Rattle.lra_inductive_sound.proofs.Programs.{values_closed}

pub keep_stores : {V H : Type 0} (m : Abstraction V H) → Laws m → KeepPoints m (stores m)
keep_stores m laws = record {
  begun = λ cap v fine is s none. (fine, laws.top_stores 0 cap v fine is s (ap length none));
  changed = λ step v w fine kept s t h led. (fine, laws.kept_stores step v w h.0 fine kept s t h.1 led);
  covered = λ v w fine is s h. (fine, laws.leq_stores v w h.0 fine is s h.1);
  started = λ v given h is s k. (is.formed, is.stores s k.1);
  old = λ h v next fine is s k. (fine, laws.old_stores h v next k.0 fine is s k.1);
  stays = λ h v mode fine yes s k. (fine, laws.stays_stores h v mode fine k.0 (laws.answers_yes h v mode yes) s k.1);
  valued = λ h e v is s k. (is.formed, is.stores s k.1);
  partless = λ v none s h. laws.partless v h.0 none s h.1;
}

pub stores_closed : {V H : Type 0} (m : Abstraction V H) → Laws m → ValuesAreInductive m (stores m)
stores_closed m laws = values_closed m (stores m) laws (keep_stores m laws)
