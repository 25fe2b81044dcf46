-- How far the code is along a path.
use Rattle.path_pkg.specs.Spot.{Spot}
use Rattle.path_pkg.specs.declared.place.Place.{Place}

-- the spot that the code's place stands for
abbrev pub spot_of : Place → Spot
spot_of p = record { absolute = p.absolute; parts = p.parts.items; links = p.links.items }
