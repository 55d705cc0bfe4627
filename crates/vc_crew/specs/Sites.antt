-- The device of a site.
use Rattle.vc_shared.specs.Handles.{DeviceId, device_at}
use Rattle.vc_crew.specs.declared.site.Site.{Site}

-- the device that the threads of a site share
abbrev pub device_of : Site → DeviceId
device_of site = device_at site.shared site.slots site.workers
