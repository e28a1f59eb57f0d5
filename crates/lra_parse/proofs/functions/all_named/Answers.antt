-- Goals of `all_named`: the parameters, if each has a name.
use Rattle.lra_parser_spec.proofs.Named.{next_named, next_unnamed}
use Rattle.lra_parse.proofs.functions.all_named.Goals as goal

pub names-preserved-in-Continue-1 : goal.names-preserved-in-Continue-1
names-preserved-in-Continue-1 c = next_named c.names.yielded c.names.items.items c.push.new.self.items c.names.are_named c.in-Some.parameter c.in-Some-parameter.named c.in-Some-parameter.is
    c.in_ok-push-in-Some-parameter.ensures.items c.names.invariant

pub names-preserved : goal.names-preserved
names-preserved c = next_unnamed c.names.yielded c.in-Some.parameter c.in-None-parameter.is
