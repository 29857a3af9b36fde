use Rattle.std.proofs.Common.{rules}
use Rattle.rmp_c.proofs.path.path_text.Goals as goal

pub returns : goal.returns
returns c = record {
  found = c.in_ok-path.ensures.0;
  locates = c.in_ok-path.ensures.1;
  path = c.in_ok-path.path;
  is_path = c.in_ok-path.ensures.2;
  text_is = search rules;
  place_is = search rules;
}
