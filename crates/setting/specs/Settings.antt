-- What a call brings beside its sheet. Today both are the band.
use Rattle.band.specs.declared.Band.{Band}

-- the band of a call, and what its field is read from
abbrev pub Domain : Type 0
Domain = Band

-- all that a call brings: its domain
abbrev pub Setting : Type 0
Setting = Domain

-- the band of a domain
abbrev pub band_in : Domain → Band
band_in d = d

-- the domain of a setting
abbrev pub domain_in : Setting → Domain
domain_in s = s

-- the domain and the setting of a call that brings a band
abbrev pub domain_of : Band → Domain
domain_of b = b

abbrev pub setting_of : Band → Setting
setting_of b = domain_of b
