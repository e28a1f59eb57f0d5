-- Goals of `add_signature`: adds a function's signature, unless there is one of its name.
use Rattle.std.proofs.{Common.◌≡◌, Common.ℕ, Common.Bool, Common.None, Common.length, Common.ap₂, Common.rules, Common.string_bytes, Common.is_some, lemmas.Map.Text.hash_map_updates_text}
use Rattle.indexmap.specs.IndexMap.{get_by_text}
use Rattle.lra_syntax.specs.Views.{function_view}
use Rattle.lra_scopes.specs.declared.signatures.Signature.{Signature}
use Rattle.lra_scopes.proofs.SignatureLaws.{signature_added}
use Rattle.lra_scopes.proofs.signatures.add_signature.Goals as goal

pub returns : goal.returns
returns c =
    let f = c.args.function.now in
    let text : string_bytes c.in_ok-text.text ≡ f.name.word = search rules in
    let count : c.len.result ≡ length f.parameters.items.items = search rules in
    let none : get_by_text c.args.signatures.now f.name.word ≡ None = search rules in
    let has : c.is_some.result ≡ is_some f.result_type = search rules in
    let s : ℕ → Bool → Signature = λ n b. record { place = c.args.place; parameters = n; has_result = b } in
    signature_added c.args.signatures.now c.insert.new.self (string_bytes c.in_ok-text.text) c.args.place (function_view f) (s c.len.result c.is_some.result) text (ap₂ s count has) none
    (hash_map_updates_text (string_bytes c.in_ok-text.text) c.args.signatures.now c.insert.new.self _ c.in_ok-insert.ensures.updates)
