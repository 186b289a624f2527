-- The parts of a reference, as the code cuts them.
use Rattle.pur_uri.specs.declared.splitting.Reference.{Reference}
use Rattle.pur_uri.specs.Images.{part_of}
use Rattle.pur_uri.specs.Splitting.{Parts}

abbrev pub parts_in : Reference → Parts
parts_in r = record {
  scheme = part_of r.scheme;
  authority = part_of r.authority;
  path = r.path.now;
  query = part_of r.query;
  fragment = part_of r.fragment;
}
