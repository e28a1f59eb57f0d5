-- What the least changes of a value do to stores.
use Rattle.std.specs.Prelude.{◌≡◌, ◌≤◌, ◌<◌, ℕ, ◌+◌, ◌-◌, ℤ, List, ◌++◌, length, take, slice_set}
use Rattle.lra_linear_forms.specs.Form.{Form, form_value, HoldsAt}
use Rattle.lra_domain.specs.Crates.lra_linear_spec.declared.ConKind.{ConKind}

-- every store of the first is one of the second
abbrev pub Within : (List ℤ → Type 0) → (List ℤ → Type 0) → Type 0
Within p q = (s : List ℤ) → p s → q s

-- a least change of a store
pub data Action : Type 0 where
  assign : ℕ → Form → Action
  forget : ℕ → Action
  test : ConKind → Form → Action
  embed : ℕ → Action
  remove_last : ℕ → Action

-- the change may lead from the first store to the second
abbrev pub Leads : Action → List ℤ → List ℤ → Type 0
Leads (assign x e) s t = t ≡ slice_set s x (form_value e s)
Leads (forget x) s t = (k : ℤ) × (t ≡ slice_set s x k)
Leads (test kind e) s t = HoldsAt kind e s × (t ≡ s)
Leads (embed k) s t = (added : List ℤ) × (length added ≡ k) × (t ≡ s ++ added)
Leads (remove_last k) s t = t ≡ take (length s - k) s

-- how many dimensions there are after the change
abbrev pub dims_after : Action → ℕ → ℕ
dims_after (assign x e) n = n
dims_after (forget x) n = n
dims_after (test kind e) n = n
dims_after (embed k) n = n + k
dims_after (remove_last k) n = n - k

-- the change is one of stores of n numbers: its places are there, its form has so many coefficients
abbrev pub ActionFits : Action → ℕ → Type 0
ActionFits (assign x e) n = (x < n) × (length e.coefficients ≡ n)
ActionFits (forget x) n = x < n
ActionFits (test kind e) n = length e.coefficients ≡ n
ActionFits (embed k) n = Unit {0}
ActionFits (remove_last k) n = k ≤ n

-- as a domain may say it that knows no points but stores: each store to which the change may lead is one of the second
-- value; each store of the old head and of next is one of the new head
abbrev pub KeepsStores : {V : Type 0} → (V → List ℤ → Type 0) → Action → V → V → Type 0
KeepsStores has step v w = (s t : List ℤ) → has v s → Leads step s t → has w t

abbrev pub HoldsStores : {V H : Type 0} → (V → List ℤ → Type 0) → (H → List ℤ → Type 0) → H → V → H → Type 0
HoldsStores has head_has old next new = Within (head_has old) (head_has new) × Within (has next) (head_has new)
